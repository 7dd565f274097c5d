-- A range above all values that were seen meets none of them.
use Rattle.std.proofs.Common.{◌≡◌, Bool, true, false, if◌then◌else◌, List, [], ◌∷◌, Option, Some, None, refl, sym, ap, ◌∙◌, arith, subst}
use Rattle.std.proofs.Math.IntN.{ℤ}
use Rattle.std.proofs.lemmas.Int.{ints}
use Rattle.std.proofs.lemmas.Bool.{or_from}
use Rattle.std.specs.Prelude.{◌≤ℤ◌, ◌<ℤ◌, int_le, int_lt}
use Rattle.std.specs.Ordering.{int_cmp}
use Rattle.std.specs.BTreeMap.{Updates}
use Rattle.plc_types.specs.declared.range.Range.{Range}
use Rattle.plc_types.specs.declared.data_type.DataType.{DataType}
use Rattle.rules.specs.declared.outcome.Outcome.{Outcome}
use Rattle.rules.specs.Outcomes.{outcome_of}
use Rattle.source_tree.specs.Syntax.{LabelData}
use Rattle.typing.specs.Typing.{Scope}
use Rattle.typing.specs.Labels.{meets, overlaps, label_range, judged_label, seen_with}
use Rattle.typing_laws.proofs.Labelling.{label_seen, label_left}
use Rattle.stmt_types.specs.declared.seen_labels.Seen.{Seen}
use Rattle.stmt_types.specs.SeenLabels.{is_above, greater, AreWithin, Sees}

lt_true : (x y : ℤ) → int_lt x y ≡ true → x <ℤ y
lt_true x y h = grind (arith, ints)

le_not : (x y : ℤ) → y <ℤ x → int_le x y ≡ false
le_not x y h = grind (arith, ints)

behind : (top : ℤ) (rs : List Range) (r : Range) → AreWithin (Some top) rs → top <ℤ r.low → overlaps rs r ≡ false
behind top [] r within above = refl
behind top (s ∷ rs) r within above =
    let past : s.high <ℤ r.low = omega (arith, ints) in
    let apart : int_le r.low s.high ≡ false = le_not r.low s.high past in
    or_from (meets r s) (overlaps rs r) (rw apart refl) (behind top rs r within.1 above)

pub none_above : (greatest : Option ℤ) (rs : List Range) (r : Range) → AreWithin greatest rs → is_above greatest r.low ≡ true → false ≡ overlaps rs r
none_above None [] r within above = refl
none_above None (s ∷ rs) r within above = absurd within.0
none_above (Some top) rs r within above = sym (behind top rs r within (lt_true top r.low above))

-- the greater of two is at least each
at_least : (b : Bool) (top value : ℤ) → int_lt top value ≡ b → (top ≤ℤ (if b then value else top)) × (value ≤ℤ (if b then value else top))
at_least true top value e = let h : top <ℤ value = lt_true top value e in (omega (arith, ints), omega (arith, ints))
at_least false top value e = let h : value ≤ℤ top = grind (arith, ints) in (omega (arith, ints), omega (arith, ints))

within_new : (greatest : Option ℤ) (value : ℤ) → value ≤ℤ greater greatest value
within_new None value = omega (arith, ints)
within_new (Some top) value = (at_least (int_lt top value) top value refl).1

within_old : (greatest : Option ℤ) (value : ℤ) (rs : List Range) → AreWithin greatest rs → AreWithin (Some (greater greatest value)) rs
within_old greatest value [] within = tt
within_old None value (r ∷ rs) within = absurd within.0
within_old (Some top) value (r ∷ rs) within =
    let more : top ≤ℤ greater (Some top) value = (at_least (int_lt top value) top value refl).0 in
    (omega (arith, ints, within.0), within_old (Some top) value rs within.1)

-- a label that breaks no rule is seen from then on
pub sees_label : (scope : Scope) (t : DataType) (list : List Range) (l : LabelData) (r : Range) (o : Outcome) (old new : Seen)
    → r ≡ label_range scope t l → o ≡ outcome_of (judged_label scope t list l) → o.whole ≡ true
    → Updates int_cmp old.highs new.highs r.low (Some r.high) → new.greatest ≡ Some (greater old.greatest r.high) → Sees old list → Sees new (seen_with scope t list l)
unfolding outcome_of
sees_label scope t list l r o old new is told whole updates raised sees =
    let w : (judged_label scope t list l).whole ≡ true = sym (ap (λ (x : Outcome). x.whole) told) ∙ whole in
    let within : AreWithin (Some (greater old.greatest r.high)) (r ∷ list) = (within_new old.greatest r.high, within_old old.greatest r.high list sees.1) in
    let listed : AreWithin new.greatest (label_range scope t l ∷ list) = subst (λ (g : Option ℤ). AreWithin g (label_range scope t l ∷ list)) (sym raised) (subst (λ (s : Range). AreWithin (Some (greater old.greatest r.high)) (s ∷ list)) is within) in (
      label_seen scope t list l r r.low r.high o old.highs new.highs is refl refl told whole updates sees.0,
      subst (λ (b : Bool). AreWithin new.greatest (if b then label_range scope t l ∷ list else list)) (sym w) listed,
    )

-- and one that breaks one is not
pub sees_no_more : (scope : Scope) (t : DataType) (list : List Range) (l : LabelData) (o : Outcome) (seen : Seen)
    → o ≡ outcome_of (judged_label scope t list l) → o.whole ≡ false → Sees seen list → Sees seen (seen_with scope t list l)
unfolding outcome_of
sees_no_more scope t list l o seen told broken sees =
    let w : (judged_label scope t list l).whole ≡ false = sym (ap (λ (x : Outcome). x.whole) told) ∙ broken in (
      label_left scope t list l o seen.highs told broken sees.0,
      subst (λ (b : Bool). AreWithin seen.greatest (if b then label_range scope t l ∷ list else list)) (sym w) sees.1,
    )
