-- Labels one after the other.
use Rattle.std.proofs.Common.{◌≡◌, ℕ, Bool, true, false, not, ◌&&◌, if◌then◌else◌, List, [], ◌∷◌, ◌++◌, Some, refl, sym, ap, ◌∙◌, subst}
use Rattle.std.proofs.Math.IntN.{ℤ}
use Rattle.std.specs.Prelude.{int_le}
use Rattle.std.specs.Ordering.{int_cmp}
use Rattle.std.specs.BTreeMap.{BTreeMap, Updates}
use Rattle.std.proofs.lemmas.Bool.{not-true}
use Rattle.plc_types.specs.declared.data_type.DataType.{DataType}
use Rattle.rules.specs.declared.rule.Rule.{Rule}
use Rattle.rules.specs.declared.rule.Rule.TheVariants.{OperandType, OutsideType, Overlap}
use Rattle.plc_types.specs.declared.range.Range.{Range}
use Rattle.plc_types.proofs.InRange.{le_from}
use Rattle.source_tree.specs.declared.syntax.Entry.{Entry as EntryTree, out-Entry}
use Rattle.source_tree.specs.declared.syntax.Stmt.TheFolds.{fold_out-Entry}
use Rattle.source_tree.specs.SyntaxView.{ArmData, EntryData, stmt_step, arm_step, entry_step, labels_view, stmts_view, entry_view}
use Rattle.source_tree.specs.Syntax.{Stmt, LabelData, Stmts, Entries, entry}
use Rattle.rules.specs.declared.outcome.Outcome.{Outcome}
use Rattle.typing.specs.Typing.{Scope, place_of}
use Rattle.rules.specs.Judgements.{Judgement, and, require}
use Rattle.typing.specs.Judged.{judged}
use Rattle.typing.specs.Labels.{label_range, judged_high, is_of_type, high_is_of_type, overlaps, judged_label, seen_with, seen_behind}
use Rattle.rules.specs.Outcomes.{outcome_of, both, tried}
use Rattle.typing.specs.Outcomes.{labels_outcome, all_labels}
use Rattle.typing.specs.Seen.{Keeps}
use Rattle.typing_laws.proofs.Judging.{outcome_of-require}
use Rattle.typing_laws.proofs.Apart.{keeps_one_more}

-- the parts of a label
parts : Scope → DataType → LabelData → Judgement
parts scope t l = and (judged scope (Some t) l.low) (judged_high scope t l.high)

formed : Scope → DataType → LabelData → Judgement
formed scope t l = require (parts scope t l) (is_of_type scope t l.low && high_is_of_type scope t l.high) OperandType (place_of l.low)

ordered : Scope → DataType → LabelData → Judgement
ordered scope t l = require (formed scope t l) (int_le (label_range scope t l).low (label_range scope t l).high) OutsideType (place_of l.low)

-- what a label tells, from what its parts tell
pub outcome_of-label : (scope : Scope) (t : DataType) (seen : List Range) (l : LabelData) (fits order new : Bool) (b x y z : Outcome)
    → fits ≡ (is_of_type scope t l.low && high_is_of_type scope t l.high) → order ≡ int_le (label_range scope t l).low (label_range scope t l).high → new ≡ not (overlaps seen (label_range scope t l))
    → b ≡ outcome_of (and (judged scope (Some t) l.low) (judged_high scope t l.high))
    → x ≡ tried b fits OperandType (place_of l.low) → y ≡ tried x order OutsideType (place_of l.low) → z ≡ tried y new Overlap (place_of l.low)
    → z ≡ outcome_of (judged_label scope t seen l)
unfolding parts formed ordered
outcome_of-label scope t seen l fits order new b x y z fits_is order_is new_is b_is x_is y_is z_is =
    let at = place_of l.low in
    let x_told : x ≡ outcome_of (formed scope t l) = x_is ∙ ap (λ (o : Outcome). tried o fits OperandType at) b_is ∙ ap (λ (h : Bool). tried (outcome_of (parts scope t l)) h OperandType at) fits_is ∙ sym (outcome_of-require (parts scope t l) (is_of_type scope t l.low && high_is_of_type scope t l.high) OperandType at) in
    let y_told : y ≡ outcome_of (ordered scope t l) = y_is ∙ ap (λ (o : Outcome). tried o order OutsideType at) x_told ∙ ap (λ (h : Bool). tried (outcome_of (formed scope t l)) h OutsideType at) order_is ∙ sym (outcome_of-require (formed scope t l) (int_le (label_range scope t l).low (label_range scope t l).high) OutsideType at) in
    z_is ∙ ap (λ (o : Outcome). tried o new Overlap at) y_told ∙ ap (λ (h : Bool). tried (outcome_of (ordered scope t l)) h Overlap at) new_is ∙ sym (outcome_of-require (ordered scope t l) (not (overlaps seen (label_range scope t l))) Overlap at)

-- a whole construct has whole parts, and its test holds
whole_tested : (j : Judgement) (w h : Bool) (rule : Rule) (at : ℕ) → j.whole ≡ w → (require j h rule at).whole ≡ true → (j.whole ≡ true) × (h ≡ true)
whole_tested j true true rule at e whole = (e, refl)
whole_tested j true false rule at e whole = absurd (let k : false ≡ true = rw e at whole in let z : ⊥ = cc in z)
whole_tested j false h rule at e whole = absurd (let k : false ≡ true = rw e at whole in let z : ⊥ = cc in z)

whole_label : (scope : Scope) (t : DataType) (seen : List Range) (l : LabelData) → (judged_label scope t seen l).whole ≡ true
    → (int_le (label_range scope t l).low (label_range scope t l).high ≡ true) × (overlaps seen (label_range scope t l) ≡ false)
unfolding parts formed ordered
whole_label scope t seen l whole =
    let last = whole_tested (ordered scope t l) (ordered scope t l).whole (not (overlaps seen (label_range scope t l))) Overlap (place_of l.low) refl whole in
    let middle = whole_tested (formed scope t l) (formed scope t l).whole (int_le (label_range scope t l).low (label_range scope t l).high) OutsideType (place_of l.low) refl last.0 in
    (middle.1, not-true (overlaps seen (label_range scope t l)) last.1)

-- a label that breaks no rule is seen from then on
pub label_seen : (scope : Scope) (t : DataType) (seen : List Range) (l : LabelData) (r : Range) (low high : ℤ) (o : Outcome) (old new : BTreeMap ℤ ℤ) → r ≡ label_range scope t l → low ≡ r.low → high ≡ r.high → o ≡ outcome_of (judged_label scope t seen l) → o.whole ≡ true
    → Updates int_cmp old new low (Some high) → Keeps old seen → Keeps new (seen_with scope t seen l)
unfolding outcome_of
label_seen scope t seen l r low high o old new is low_is high_is told whole updates keeps =
    let w : (judged_label scope t seen l).whole ≡ true = sym (ap (λ (x : Outcome). x.whole) told) ∙ whole in
    let facts = whole_label scope t seen l w in
    let low_at : low ≡ (label_range scope t l).low = low_is ∙ ap (λ (s : Range). s.low) is in
    let high_at : high ≡ (label_range scope t l).high = high_is ∙ ap (λ (s : Range). s.high) is in
    let u : Updates int_cmp old new (label_range scope t l).low (Some (label_range scope t l).high) =
    subst (λ (y : ℤ). Updates int_cmp old new (label_range scope t l).low (Some y)) high_at (subst (λ (x : ℤ). Updates int_cmp old new x (Some high)) low_at updates) in
    subst (λ (b : Bool). Keeps new (if b then label_range scope t l ∷ seen else seen)) (sym w)
    (keeps_one_more old new seen (label_range scope t l) u (le_from (label_range scope t l).low (label_range scope t l).high facts.0) facts.1 keeps)

pub label_left : (scope : Scope) (t : DataType) (seen : List Range) (l : LabelData) (o : Outcome) (m : BTreeMap ℤ ℤ) → o ≡ outcome_of (judged_label scope t seen l) → o.whole ≡ false → Keeps m seen → Keeps m (seen_with scope t seen l)
unfolding outcome_of
label_left scope t seen l o m told broken keeps =
    let w : (judged_label scope t seen l).whole ≡ false = sym (ap (λ (x : Outcome). x.whole) told) ∙ broken in
    subst (λ (b : Bool). Keeps m (if b then label_range scope t l ∷ seen else seen)) (sym w) keeps

-- labels behind labels
pub labels_outcome-append : (scope : Scope) (t : DataType) (seen : List Range) (o : Outcome) (ls ms : List LabelData)
    → labels_outcome scope t seen o (ls ++ ms) ≡ labels_outcome scope t (seen_behind scope t seen ls) (labels_outcome scope t seen o ls) ms
labels_outcome-append scope t seen o [] ms = refl
labels_outcome-append scope t seen o (l ∷ ls) ms = labels_outcome-append scope t (seen_with scope t seen l) (both o (outcome_of (judged_label scope t seen l))) ls ms

pub labels_step : (scope : Scope) (t : DataType) (now : List Range) (o p z : Outcome) (ls : List LabelData) (body : Stmts) (es rest : Entries) → es ≡ entry ls body rest
    → p ≡ labels_outcome scope t now o ls → labels_outcome scope t now o (all_labels es) ≡ z → labels_outcome scope t (seen_behind scope t now ls) p (all_labels rest) ≡ z
labels_step scope t now o p z ls body es rest split step is =
    ap (λ (x : Outcome). labels_outcome scope t (seen_behind scope t now ls) x (all_labels rest)) step ∙ sym (labels_outcome-append scope t now o ls (all_labels rest))
    ∙ ap (λ (x : Entries). labels_outcome scope t now o (all_labels x)) (sym split) ∙ is

-- one more label
pub label_step : (scope : Scope) (t : DataType) (now : List Range) (o p q z : Outcome) (behind : List Range) (l : LabelData) (ls all : List LabelData) → all ≡ l ∷ ls → p ≡ outcome_of (judged_label scope t now l) → q ≡ both o p
    → labels_outcome scope t now o all ≡ z → seen_behind scope t now all ≡ behind → (labels_outcome scope t (seen_with scope t now l) q ls ≡ z) × (seen_behind scope t (seen_with scope t now l) ls ≡ behind)
label_step scope t now o p q z behind l ls all split told is left seen =
    let q_is : q ≡ both o (outcome_of (judged_label scope t now l)) = is ∙ ap (both o) told in
    (ap (λ (x : Outcome). labels_outcome scope t (seen_with scope t now l) x ls) q_is ∙ ap (labels_outcome scope t now o) (sym split) ∙ left, ap (seen_behind scope t now) (sym split) ∙ seen)

-- the data of an entry, by its fields
pub entry_view-out : (e : EntryTree) → entry_view e ≡ (labels_view (out-Entry e).labels.items, stmts_view (out-Entry e).body.items)
entry_view-out = fold_out-Entry Stmt ArmData EntryData stmt_step arm_step entry_step
