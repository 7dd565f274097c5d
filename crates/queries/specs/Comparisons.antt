-- What is compared: OLD, NEW and the relation between them.
use Rattle.std.specs.Prelude.{◌≡◌, ◌≤◌, ℕ, length, map, All}
use Rattle.program_tree.specs.Tree.{ProgramData}
use Rattle.program_tree.specs.Places.{of_cell, IsTypedPlace}
use Rattle.scan_model.specs.Pairs.{RelationData}
use Rattle.scan_model.specs.Candidates.{candidates_of}
use Rattle.scan_model.specs.VerdictLaws.{AreRelatable}

pub record Comparison : Type 0 where
  pub old : ProgramData
  pub new : ProgramData
  pub relation : RelationData

-- each cell's range is one of numbers of its type
abbrev pub HasTypedPlaces : ProgramData → Type 0
HasTypedPlaces p = All IsTypedPlace (map of_cell p.cells)

-- two programs and a relation between them, as a relation file is read: its candidates are listed, and its numbers within their limits
pub record IsComparison (c : Comparison) : Type 0 where
  pub old_places : HasTypedPlaces c.old
  pub new_places : HasTypedPlaces c.new
  pub relatable : AreRelatable c.old c.new c.relation
  pub listed : c.relation.candidates ≡ candidates_of c.old c.new c.relation
  pub few : length c.relation.candidates ≤ 4096
  pub some_depth : 1 ≤ c.relation.depth
  pub depth : c.relation.depth ≤ 64
  pub some_conflicts : 1 ≤ c.relation.conflicts
  pub conflicts : c.relation.conflicts ≤ 1000000
