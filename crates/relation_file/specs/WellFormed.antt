-- What every relation keeps that a file states between two programs.
use Rattle.std.specs.Prelude.{◌≡◌, ◌≢◌, ◌≤◌, ℕ, List, [], ◌∷◌, ◌++◌, All, Contains, true, Some, slice_get}
use Rattle.std.specs.List.{AllPairs}
use Rattle.plc_types.specs.Enumerations.{paired_type}
use Rattle.program_tree.specs.Cells.{is_input}
use Rattle.program_tree.specs.Tree.{CellData, ProgramData}
use Rattle.scan_model.specs.declared.side.Side.{Side}
use Rattle.scan_model.specs.declared.side.Side.TheVariants as sides
use Rattle.scan_model.specs.declared.relation.InputLine.{InputLine}
use Rattle.scan_model.specs.declared.relation.InputLine.TheVariants.{Both, Old, New}
use Rattle.scan_model.specs.Pairs.{RelationData}
use Rattle.scan_model.specs.Candidates.{candidates_of}
use Rattle.clause_types.specs.PlacesByPath.{place_by_path}
use Rattle.relation_file.specs.Inputs.{are_alike}
use Rattle.relation_file.specs.Broken.{program_at}

-- the cell of a program, by its place, that the number of an INPUT line goes into, where it goes into one
abbrev pub cell_of : Side → InputLine → List ℕ
cell_of sides.Old (Both range p q) = p ∷ []
cell_of sides.Old (Old range p) = p ∷ []
cell_of sides.Old (New range q) = []
cell_of sides.New (Both range p q) = q ∷ []
cell_of sides.New (Old range p) = []
cell_of sides.New (New range q) = q ∷ []

abbrev pub cells_of : Side → List InputLine → List ℕ
cells_of side [] = []
cells_of side (l ∷ ls) = cell_of side l ++ cells_of side ls

-- the cells at two places, one of OLD and one of NEW, are of one type with the same bounds
pub record ArePaired (old new : ProgramData) (p q : ℕ) : Type 0 where
  pub of_old : CellData
  pub of_new : CellData
  pub at_old : slice_get old.cells p ≡ Some of_old
  pub at_new : slice_get new.cells q ≡ Some of_new
  pub alike : are_alike (paired_type old.types new.types) (Some (p, of_old)) (Some (q, of_new)) ≡ true

abbrev pub IsAlike : ProgramData → ProgramData → InputLine → Type 0
IsAlike old new (Both range p q) = ArePaired old new p q
IsAlike old new (Old range p) = Unit {0}
IsAlike old new (New range q) = Unit {0}

-- at a place stands an input
pub record IsInputAt (cells : List CellData) (place : ℕ) : Type 0 where
  pub cell : CellData
  pub there : slice_get cells place ≡ Some cell
  pub input : is_input cell.part ≡ true

-- the first cell of a path stands at one of these places
pub record HasPlaceOf (cells : List CellData) (places path : List ℕ) : Type 0 where
  pub place : ℕ
  pub first : place_by_path path cells ≡ Some place
  pub listed : Contains places place

-- The candidates are the model's, DEPTH and CONFLICTS lie in their limits, only inputs get numbers, the first cell of each input's path gets one,
-- none gets two, and inputs that get one number are alike.
pub record IsWellFormed (old new : ProgramData) (rel : RelationData) : Type 0 where
  pub candidates : rel.candidates ≡ candidates_of old new rel
  pub depth : (1 ≤ rel.depth) × (rel.depth ≤ 64)
  pub conflicts : (1 ≤ rel.conflicts) × (rel.conflicts ≤ 1000000)
  pub only_inputs : (side : Side) → All (IsInputAt (program_at old new side).cells) (cells_of side rel.inputs)
  pub every_input : (side : Side) (place : ℕ) (c : CellData) → slice_get (program_at old new side).cells place ≡ Some c → is_input c.part ≡ true
      → HasPlaceOf (program_at old new side).cells (cells_of side rel.inputs) c.path
  pub once : (side : Side) → AllPairs (λ p q. p ≢ q) (cells_of side rel.inputs)
  pub alike : All (IsAlike old new) rel.inputs
