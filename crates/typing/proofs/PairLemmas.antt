-- What names behind `new` stand for, from what they stand for by themselves.
use Rattle.std.proofs.Common.{◌≡◌, ℕ, ◌+◌, Bool, true, false, if◌then◌else◌, List, [], ◌∷◌, Option, Some, None, option_map, refl, ap, ◌∙◌}
use Rattle.std.specs.Str.{bytes_eq}
use Rattle.plc_types.specs.declared.data_type.DataType.{DataType}
use Rattle.plc_types.specs.Enumerations.{value_named}
use Rattle.source_tree.specs.Syntax.{Named}
use Rattle.program_tree.specs.Tree.{CellData, ProgramData}
use Rattle.typing.specs.declared.scope.Meaning.{Meaning}
use Rattle.typing.specs.Programs.{or_meaning, joined, own_type, cell_meaning, cell_among, value_member, value_among, member_of}

-- the same with its data type in the pair
abbrev pub repaired : (DataType → DataType) → Meaning → Meaning
repaired paired m = record m { kind = paired m.kind }

chosen : (b : Bool) (paired : DataType → DataType) (m : Meaning) (o rest : Option Meaning) → rest ≡ option_map (repaired paired) o → (if b then Some (repaired paired m) else rest) ≡ option_map (repaired paired) (if b then Some m else o)
chosen true paired m o rest e = refl
chosen false paired m o rest e = e

cell_among-paired : (paired : DataType → DataType) (text : List ℕ) (place : ℕ) (cs : List CellData) → cell_among paired text place cs ≡ option_map (repaired paired) (cell_among own_type text place cs)
cell_among-paired paired text place [] = refl
cell_among-paired paired text place (c ∷ cs) =
    chosen (bytes_eq c.path text) paired (cell_meaning own_type place c) (cell_among own_type text (place + 1) cs) (cell_among paired text (place + 1) cs) (cell_among-paired paired text (place + 1) cs)

member-paired : (paired : DataType → DataType) (o : Option (ℕ × ℕ)) → option_map (value_member paired) o ≡ option_map (repaired paired) (option_map (value_member own_type) o)
member-paired paired None = refl
member-paired paired (Some v) = refl

value_among-paired : (paired : DataType → DataType) (ns : List Named) (types : List (List (List ℕ))) → value_among paired ns types ≡ option_map (repaired paired) (value_among own_type ns types)
value_among-paired paired [] types = refl
value_among-paired paired (n ∷ []) types = member-paired paired (value_named n.text 0 types)
value_among-paired paired (n ∷ m ∷ ns) types = refl

or-paired : (paired : DataType → DataType) (c v : Option Meaning) → or_meaning (option_map (repaired paired) c) (option_map (repaired paired) v) ≡ option_map (repaired paired) (or_meaning c v)
or-paired paired None v = refl
or-paired paired (Some m) v = refl

pub member_of-paired : (paired : DataType → DataType) (start : ℕ) (p : ProgramData) (ns : List Named) → member_of paired start p ns ≡ option_map (repaired paired) (member_of own_type start p ns)
member_of-paired paired start p ns =
    ap (λ (o : Option Meaning). or_meaning o (value_among paired ns p.types)) (cell_among-paired paired (joined ns) start p.cells)
    ∙ ap (or_meaning (option_map (repaired paired) (cell_among own_type (joined ns) start p.cells))) (value_among-paired paired ns p.types)
    ∙ or-paired paired (cell_among own_type (joined ns) start p.cells) (value_among own_type ns p.types)
