-- Flat programs as plain data. A place counts the cells and behind them the scratch cells.
use Rattle.std.specs.Prelude.{ℕ, ◌+◌, List}
use Rattle.program_tree.specs.Tree.{Expression, CellData}
use Rattle.program_tree.specs.declared.scratch.Scratch.{Scratch}

-- an assignment to a place; and a condition, what runs where it is TRUE, and what else runs
mutual
  pub data FlatStatement : Type 0 where
    set : ℕ → Expression → FlatStatement
    branch : Expression → FlatStatements → FlatStatements → FlatStatement

  pub data FlatStatements : Type 0 where
    no_flats : FlatStatements
    flat : FlatStatement → FlatStatements → FlatStatements

-- the program's cells, the scratch cells, and the statements of a scan
pub record FlatData : Type 0 where
  pub cells : List CellData
  pub scratch : List Scratch
  pub body : FlatStatements

-- how many statements there are, nested ones too
abbrev mutual
  pub size_of : FlatStatement → ℕ
  size_of (set place e) = 1
  size_of (branch e a b) = 1 + size_of_all a + size_of_all b

  pub size_of_all : FlatStatements → ℕ
  size_of_all no_flats = 0
  size_of_all (flat t ts) = size_of t + size_of_all ts
