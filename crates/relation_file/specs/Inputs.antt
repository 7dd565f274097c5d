-- The names of INPUT lines.
use Rattle.std.specs.Prelude.{ℕ, List, [], ◌∷◌, ◌++◌, Bool, true, false, not, ◌&&◌, Option, Some, None, if◌then◌else◌}
use Rattle.std.specs.List.{list_all}
use Rattle.std.specs.Ordering.{int_eq}
use Rattle.rules.specs.declared.rule.Rule.TheVariants.{UnknownName, WrongUse, InputCount}
use Rattle.rules.specs.declared.rule.Refusal.{Refusal}
use Rattle.plc_types.specs.declared.range.Range.{Range}
use Rattle.plc_types.specs.declared.data_type.DataType.{DataType}
use Rattle.plc_types.specs.DataTypes.{is_same_type}
use Rattle.program_tree.specs.Cells.{is_input}
use Rattle.source_tree.specs.Syntax.{Named}
use Rattle.program_tree.specs.Tree.{CellData, ProgramData}
use Rattle.scan_model.specs.declared.side.Side.{Side}
use Rattle.scan_model.specs.declared.side.Side.TheVariants as sides
use Rattle.relation_file.specs.Refusals.{breaks, unless}
use Rattle.candidates.specs.ByPath.{cell_named, is_among}
use Rattle.relation_lines.specs.Lines.{ContentData, setting, faults, paired, single, clause, LineData}

-- the names by which a line names inputs of a program
abbrev pub named_single : Side → Side → Named → List (List ℕ)
named_single sides.Old sides.Old n = n.text ∷ []
named_single sides.New sides.New n = n.text ∷ []
named_single sides.Old sides.New n = []
named_single sides.New sides.Old n = []

abbrev pub named_paired : Side → Named → Named → List (List ℕ)
named_paired sides.Old a b = a.text ∷ []
named_paired sides.New a b = b.text ∷ []

abbrev pub named_by : Side → ContentData → List (List ℕ)
named_by side (setting s value at) = []
named_by side (faults equal at) = []
named_by side (paired a at b) = named_paired side a b
named_by side (single s at a) = named_single side s a
named_by side (clause c e) = []

abbrev pub names_in : Side → List LineData → List (List ℕ)
names_in side [] = []
names_in side (l ∷ ls) = named_by side l.content ++ names_in side ls

-- What a name of an INPUT line breaks: N2 where it is no variable; N4 where it is a constant or an instance, which are no cells, or
-- no input; P2 where a line before has named it.
abbrev pub broken_at_cell : Bool → Bool → Named → Option (ℕ × CellData) → List Refusal
broken_at_cell again without_cell n None = if without_cell then breaks WrongUse n.at else breaks UnknownName n.at
broken_at_cell again without_cell n (Some (place, c)) = if is_input c.part then unless (not again) InputCount n.at else breaks WrongUse n.at

-- the names of the lines before come first
abbrev pub broken_input : List (List ℕ) → ProgramData → Named → List Refusal
broken_input before p n = broken_at_cell (is_among before n.text) (is_among p.without_cell n.text) n (cell_named n.text p.cells)

abbrev pub is_same_range : Range → Range → Bool
is_same_range r s = int_eq r.low s.low && int_eq r.high s.high

abbrev pub is_same_flag : Bool → Bool → Bool
is_same_flag true b = b
is_same_flag false b = not b

-- two inputs, one of OLD and one of NEW, are of one type with the same bounds; a whole type has none
abbrev pub are_alike : (DataType → DataType) → Option (ℕ × CellData) → Option (ℕ × CellData) → Bool
are_alike of_pair (Some (p, a)) (Some (q, b)) = is_same_type a.kind (of_pair b.kind) && is_same_flag a.is_subrange b.is_subrange && is_same_range a.range b.range
are_alike of_pair _ _ = false

-- each input is named
abbrev pub is_listed : (List ℕ → Bool) → CellData → Bool
is_listed is_named c = if is_input c.part then is_named c.path else true

abbrev pub all_listed : (List ℕ → Bool) → List CellData → Bool
all_listed is_named cells = list_all (is_listed is_named) cells
