-- The inputs of lines that break nothing are cells of the lines' ranges.
use Rattle.std.proofs.Common.{◌≡◌, ℕ, List, [], ◌∷◌, ◌++◌, Bool, true, false, ◌&&◌, Option, Some, None, refl, sym, subst, All}
use Rattle.std.specs.Ordering.{int_eq}
use Rattle.std.proofs.lemmas.Bool.Decides.{Decides-int_eq}
use Rattle.std.proofs.lemmas.List.Elements.{All-nil, All-cons}
use Rattle.std.proofs.lemmas.Bool.{and_parts}
use Rattle.rules.specs.declared.rule.Rule.{Rule}
use Rattle.rules.specs.declared.rule.Rule.TheVariants.{InputsDiffer}
use Rattle.rules.specs.declared.rule.Refusal.{Refusal}
use Rattle.plc_types.specs.declared.range.Range.{Range}
use Rattle.source_tree.specs.Syntax.{Named}
use Rattle.program_tree.specs.Tree.{CellData, ProgramData}
use Rattle.plc_types.specs.DataTypes.{is_same_type}
use Rattle.plc_types.specs.Enumerations.{paired_type}
use Rattle.scan_model.specs.declared.side.Side.TheVariants as sides
use Rattle.scan_model.specs.declared.relation.InputLine.{InputLine}
use Rattle.scan_model.specs.Pairs.{RelationData, IsCellOf, NamesCells, BelongsTo}
use Rattle.relation_lines.specs.Lines.{ContentData, setting, faults, paired, single, clause, LineData}
use Rattle.relation_file.specs.Refusals.{unless, or_own}
use Rattle.candidates.specs.ByPath.{cell_named}
use Rattle.candidates.specs.Candidates.{before}
use Rattle.candidates.proofs.PlacedLemmas.{is_cell}
use Rattle.relation_file.specs.Inputs.{are_alike, is_same_flag, is_same_range}
use Rattle.relation_file.specs.Broken.{broken_name, broken_parts, broken_line, broken_behind, broken_lines}
use Rattle.relation_file.specs.Relations.{both_line, single_line, input_of, inputs_in, relation_of}

-- ---- the lines of a content

pub or_nothing : (xs ys : List Refusal) → or_own xs ys ≡ [] → (xs ≡ []) × (ys ≡ [])
or_nothing [] ys h = (refl, h)
or_nothing (x ∷ xs) ys h = absurd (let e : ⊥ = cc in e)

pub nothing_of_both : (xs ys : List Refusal) → xs ++ ys ≡ [] → (xs ≡ []) × (ys ≡ [])
nothing_of_both [] ys h = (refl, h)
nothing_of_both (x ∷ xs) ys h = absurd (let e : ⊥ = cc in e)

pub holds : (b : Bool) (rule : Rule) (at : ℕ) → unless b rule at ≡ [] → b ≡ true
holds true rule at h = refl
holds false rule at h = absurd (let e : ⊥ = cc in e)

pub same_range : (r s : Range) → is_same_range r s ≡ true → r ≡ s
same_range r s h =
    let e = and_parts (int_eq r.low s.low) (int_eq r.high s.high) h in
    let low = (Decides-int_eq r.low s.low).0 e.0 in
    let high = (Decides-int_eq r.high s.high).0 e.1 in
    λ i. record { low = low i; high = high i }

module _ (old new : ProgramData) where
  -- a line, where there is one, names cells
  abbrev pub IfLine : Option InputLine → Type 0
  IfLine None = Unit {0}
  IfLine (Some l) = NamesCells old new l

  both_belong : (a b : Named) (p q : Option (ℕ × CellData)) → cell_named a.text old.cells ≡ p → cell_named b.text new.cells ≡ q → are_alike (paired_type old.types new.types) p q ≡ true → IfLine (both_line p q)
  both_belong a b None q f g h = tt
  both_belong a b (Some p) None f g h = tt
  both_belong a b (Some p) (Some q) f g h =
      let e = and_parts (is_same_type p.1.kind (paired_type old.types new.types q.1.kind) && is_same_flag p.1.is_subrange q.1.is_subrange) (is_same_range p.1.range q.1.range) h in
      (is_cell old a.text p f, subst (IsCellOf new q.0) (sym (same_range p.1.range q.1.range e.1)) (is_cell new b.text q g))

  single_old : (a : Named) (p : Option (ℕ × CellData)) → cell_named a.text old.cells ≡ p → IfLine (single_line sides.Old p)
  single_old a None f = tt
  single_old a (Some p) f = is_cell old a.text p f

  single_new : (a : Named) (p : Option (ℕ × CellData)) → cell_named a.text new.cells ≡ p → IfLine (single_line sides.New p)
  single_new a None f = tt
  single_new a (Some p) f = is_cell new a.text p f

  input_belongs : (above : List LineData) (c : ContentData) → broken_parts old new above c ≡ [] → IfLine (input_of old new c)
  input_belongs above (setting s value at) h = tt
  input_belongs above (faults equal at) h = tt
  input_belongs above (paired a at b) h =
      let alike = are_alike (paired_type old.types new.types) (cell_named a.text old.cells) (cell_named b.text new.cells) in
      let none = or_nothing (broken_name old new sides.Old above a ++ broken_name old new sides.New above b) (unless alike InputsDiffer a.at) h in
      both_belong a b _ _ refl refl (holds alike InputsDiffer a.at none.1)
  input_belongs above (single sides.Old at a) h = single_old a _ refl
  input_belongs above (single sides.New at a) h = single_new a _ refl
  input_belongs above (clause c e) h = tt

  before_belong : (o : Option InputLine) (ls : List InputLine) → IfLine o → All (NamesCells old new) ls → All (NamesCells old new) (before o ls)
  before_belong None ls h rest = rest
  before_belong (Some l) ls h rest = All-cons (NamesCells old new) l ls h rest

  inputs_belong : (end : ℕ) (above ls : List LineData) → broken_behind old new end above ls ≡ [] → All (NamesCells old new) (inputs_in old new ls)
  inputs_belong end above [] h = All-nil (NamesCells old new)
  inputs_belong end above (l ∷ ls) h =
      let e = nothing_of_both (broken_line old new above l) (broken_behind old new end (l ∷ above) ls) h in
      let parts = or_nothing (broken_parts old new above l.content) _ e.0 in
      before_belong (input_of old new l.content) (inputs_in old new ls) (input_belongs above l.content parts.0) (inputs_belong end (l ∷ above) ls e.1)

pub relation_belongs : (old new : ProgramData) (end : ℕ) (lines : List LineData) (r : RelationData) → broken_lines old new end lines ≡ [] → r ≡ relation_of old new lines → BelongsTo old new r
relation_belongs old new end lines r sound is = subst (BelongsTo old new) (sym is) (inputs_belong old new end [] lines sound)
