-- Candidates by what is known of cells.
use Rattle.std.specs.Prelude.{ℕ, ◌+◌, List, [], ◌∷◌, Option, Some, None}
use Rattle.plc_types.specs.declared.data_type.DataType.{DataType}
use Rattle.plc_types.specs.DataTypes.{is_same_type}
use Rattle.program_tree.specs.Tree.{CellData}
use Rattle.scan_model.specs.Pairs.{CandidateData}
use Rattle.scan_model.specs.Candidates.{same_if}

-- a value before others, where there is one
abbrev pub before : {A : Type 0} → Option A → List A → List A
before None xs = xs
before (Some x) xs = x ∷ xs

-- `SAME P` of a cell of OLD, where a cell of NEW, whose cells stand behind so many of OLD, is found by its path
abbrev pub same_found : (DataType → DataType) → CellData → ℕ → ℕ → Option (ℕ × CellData) → List CandidateData
same_found paired c place behind None = []
same_found paired c place behind (Some (other, d)) = same_if c place (behind + other) (is_same_type c.kind (paired d.kind))
