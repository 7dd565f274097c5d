-- What names stand for in the clauses over a pair of programs.
use Rattle.std.specs.Prelude.{ℕ, ◌+◌, List, [], ◌∷◌, ◌++◌, length, codes, true, false, Option, Some, None, option_map, if◌then◌else◌}
use Rattle.std.specs.Str.{bytes_eq}
use Rattle.plc_types.specs.declared.data_type.DataType.{DataType}
use Rattle.plc_types.specs.declared.data_type.DataType.TheVariants.{Enumeration}
use Rattle.source_tree.specs.Syntax.{Named}
use Rattle.program_tree.specs.Tree.{CellData, ProgramData}
use Rattle.plc_types.specs.Enumerations.{value_named, paired_type}
use Rattle.typing.specs.declared.scope.Place.TheVariants as places
use Rattle.typing.specs.declared.scope.Meaning.{Meaning}
use Rattle.typing.specs.Typing.{Reference, Scope, without_calls, by_path, by_value}
use Rattle.typing.specs.Domains.{value_meaning}

abbrev pub or_meaning : Option Meaning → Option Meaning → Option Meaning
or_meaning (Some m) other = Some m
or_meaning None other = other

-- names joined by points
abbrev pub joined : List Named → List ℕ
joined [] = []
joined (n ∷ []) = n.text
joined (n ∷ m ∷ ns) = n.text ++ 46 ∷ joined (m ∷ ns)

-- the cell of a path, among those that begin at a place; a data type is that of the pair
abbrev pub cell_meaning : (DataType → DataType) → ℕ → CellData → Meaning
cell_meaning paired place c = record { place = places.Cell place; kind = paired c.kind; range = c.range; whole = true; assignable = false; control = false }

abbrev pub cell_among : (DataType → DataType) → List ℕ → ℕ → List CellData → Option Meaning
cell_among paired text place [] = None
cell_among paired text place (c ∷ cs) = if bytes_eq c.path text then Some (cell_meaning paired place c) else cell_among paired text (place + 1) cs

-- a value of an enumeration of a program
abbrev pub value_member : (DataType → DataType) → ℕ × ℕ → Meaning
value_member paired v = record (value_meaning v.0 v.1 true) { kind = paired (Enumeration v.0) }

abbrev pub value_among : (DataType → DataType) → List Named → List (List (List ℕ)) → Option Meaning
value_among paired [] types = None
value_among paired (n ∷ []) types = option_map (value_member paired) (value_named n.text 0 types)
value_among paired (n ∷ m ∷ ns) types = None

-- what names behind `old` or `new` stand for: a cell of that path, among those that begin at a place, or else a value
abbrev pub member_of : (DataType → DataType) → ℕ → ProgramData → List Named → Option Meaning
member_of paired start p ns = or_meaning (cell_among paired (joined ns) start p.cells) (value_among paired ns p.types)

abbrev pub own_type : DataType → DataType
own_type t = t

-- In a clause `old.path` is a cell or a value of OLD, and `new.path` one of NEW, whose cells stand behind those of OLD.
abbrev pub pair_means : ProgramData → ProgramData → Reference → Option Meaning
pair_means old new (by_value n) = None
pair_means old new (by_path p) =
    if bytes_eq p.first.text (codes "OLD") then member_of own_type 0 old p.members
    else (if bytes_eq p.first.text (codes "NEW") then member_of (paired_type old.types new.types) (length old.cells) new p.members else None)

abbrev pub pair_scope : ProgramData → ProgramData → Scope
pair_scope old new = without_calls (pair_means old new)
