-- How far rows that are allowed reach from the start.
use Rattle.std.specs.Prelude.{◌≡◌, ◌<◌, ◌≤◌, ℕ, suc, List, length}
use Rattle.program_tree.specs.Tree.{ProgramData}
use Rattle.scan_model.specs.InRange.{Row}
use Rattle.scan_model.specs.Pairs.{RelationData, start}
use Rattle.scan_model.specs.Verdicts.{AreAllowedFrom}

module _ (old new : ProgramData) (rel : RelationData) where
  -- so many rows are allowed, one after the other from the start
  abbrev pub HasWalk : ℕ → Type 0
  HasWalk r = (rows : List Row) × (length rows ≡ r) × AreAllowedFrom old new rel (start old new) rows

  -- the reach: the greatest such number, at most DEPTH
  pub record IsReach (r : ℕ) : Type 0 where
    pub walk : HasWalk r
    pub deep : r ≤ rel.depth
    pub greatest : (e : ℕ) → r < e → e ≤ rel.depth → ¬ HasWalk e

-- what has no list of one row more has none of more rows
abbrev pub UnwalkedIsReach : Type 0
UnwalkedIsReach =
    (old new : ProgramData) (rel : RelationData) (r : ℕ) → HasWalk old new rel r → r < rel.depth → ¬ HasWalk old new rel (suc r)
    → IsReach old new rel r

-- a list of DEPTH rows reaches as far as can be
abbrev pub WholeIsReach : Type 0
WholeIsReach = (old new : ProgramData) (rel : RelationData) → HasWalk old new rel rel.depth → IsReach old new rel rel.depth
