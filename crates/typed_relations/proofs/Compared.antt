-- Programs and a relation that were read are a comparison, and the two cells that an INPUT line names are of one type.
use Rattle.std.proofs.Common.{◌≡◌, ◌∙◌, ℕ, true, refl, ap, sym, List, [], ◌∷◌, length, Some, rules}
use Rattle.std.specs.Prelude.{◌&&◌, All, slice_get}
use Rattle.std.proofs.lemmas.Bool.{false≢true, and_parts, leb-true}
use Rattle.std.proofs.lemmas.Option.{get_or_from_slice_get}
use Rattle.std.proofs.lemmas.List.Elements.{All-weaker, All-map}
use denote.Enum.Bare.{same_true}
use Rattle.plc_types.specs.contracts.elementary.Elementary.{the_type}
use Rattle.plc_types.specs.declared.elementary.Elementary.TheVariants as types
use Rattle.plc_types.specs.declared.data_type.DataType.{DataType}
use Rattle.plc_types.specs.declared.data_type.DataType.TheVariants as kinds
use Rattle.plc_types.specs.DataTypes.{carrier, is_same_type}
use Rattle.plc_types.specs.Enumerations.{paired_number, paired_type, names_at}
use Rattle.program_tree.specs.Tree.{CellData, ProgramData}
use Rattle.program_tree.specs.Places.{of_cell, IsTypedPlace}
use Rattle.scan_model.specs.declared.relation.InputLine.{InputLine}
use Rattle.scan_model.specs.declared.relation.InputLine.TheVariants.{Both, Old, New}
use Rattle.queries.specs.Comparisons.{Comparison, HasTypedPlaces, IsComparison}
use Rattle.query_formulas.specs.CellShapes.{cell_at}
use Rattle.query_formula_laws.specs.TypedComparisons.{NamesAlike}
use Rattle.relation_file.specs.Inputs.{is_same_flag, is_same_range}
use Rattle.relation_file.specs.WellFormed.{IsAlike}
use Rattle.typed_programs.specs.Programs.{IsTypedCell}
use Rattle.typed_relations.specs.Readings.{IsReadProgram, AreRead}

-- cells of one type in a pair have numbers of one elementary type
same_carrier : (old new : List (List (List ℕ))) (a b : DataType) → is_same_type a (paired_type old new b) ≡ true → carrier a ≡ carrier b
same_carrier old new (kinds.Elementary k) (kinds.Elementary l) h = same_true the_type (search rules) k l h
same_carrier old new (kinds.Elementary k) (kinds.Enumeration n) h = by (names_at new n) h
  where
    by : (names : List (List ℕ)) → is_same_type (kinds.Elementary k) (paired_number old n names) ≡ true → k ≡ types.Usint
    by [] h = absurd (false≢true h)
    by (m ∷ ms) h = absurd (false≢true h)
same_carrier old new (kinds.Elementary k) kinds.Unknown h = absurd (false≢true h)
same_carrier old new (kinds.Enumeration m) (kinds.Elementary l) h = absurd (false≢true h)
same_carrier old new (kinds.Enumeration m) (kinds.Enumeration n) h = refl
same_carrier old new (kinds.Enumeration m) kinds.Unknown h = refl
same_carrier old new kinds.Unknown (kinds.Elementary l) h = absurd (false≢true h)
same_carrier old new kinds.Unknown (kinds.Enumeration n) h = refl
same_carrier old new kinds.Unknown kinds.Unknown h = refl

carrier_there : (cells : List CellData) (place : ℕ) (cell : CellData) → slice_get cells place ≡ Some cell → carrier (cell_at cells place).kind ≡ carrier cell.kind
carrier_there cells place cell is = ap (λ (c : CellData). carrier c.kind) (get_or_from_slice_get cells place cell _ is)

names_alike : (old new : ProgramData) (line : InputLine) → IsAlike old new line → NamesAlike old new line
names_alike old new (Both range p q) h =
    let a = h.of_old in
    let b = h.of_new in
    let kinds = is_same_type a.kind (paired_type old.types new.types b.kind) in
    let flags = is_same_flag a.is_subrange b.is_subrange in
    let parts = and_parts (kinds && flags) (is_same_range a.range b.range) h.alike in
    let one = and_parts kinds flags parts.0 in
    carrier_there old.cells p a h.at_old ∙ same_carrier old.types new.types a.kind b.kind one.0 ∙ sym (carrier_there new.cells q b h.at_new)
names_alike old new (Old range p) h = tt
names_alike old new (New range q) h = tt

pub all_alike : (c : Comparison) → AreRead c → All (NamesAlike c.old c.new) c.relation.inputs
all_alike c r = All-weaker (IsAlike c.old c.new) (NamesAlike c.old c.new) (names_alike c.old c.new) c.relation.inputs r.well_formed.alike

typed_places : (p : ProgramData) → IsReadProgram p → HasTypedPlaces p
typed_places p h = All-map IsTypedPlace of_cell p.cells (All-weaker IsTypedCell (λ c. IsTypedPlace (of_cell c)) (λ c typed. typed.place) p.cells h.typed.cells)

pub is_comparison : (c : Comparison) → AreRead c → IsComparison c
is_comparison c r = record {
  old_places = typed_places c.old r.old;
  new_places = typed_places c.new r.new;
  relatable = record { old_is_program = r.old.is_program; new_is_program = r.new.is_program; belongs = r.belongs };
  listed = r.well_formed.candidates;
  few = leb-true (length c.relation.candidates) 4096 r.few;
  some_depth = r.well_formed.depth.0;
  depth = r.well_formed.depth.1;
  some_conflicts = r.well_formed.conflicts.0;
  conflicts = r.well_formed.conflicts.1;
}
