-- What held on the pairs of runs.
use Rattle.std.specs.Prelude.{ℕ, zero, suc, ◌+◌, List, [], ◌∷◌, map, Bool, true, ◌&&◌, ℤ, Vec}
use Rattle.std.specs.declared.alloc.Global.{Global}
use Rattle.program_tree.specs.Tree.{ProgramData}
use Rattle.scan_model.specs.InRange.{Row}
use Rattle.scan_model.specs.Pairs.{RelationData, Pair, start, is_allowed, after_row}
use Rattle.scan_model.specs.Candidates.{candidate_holds}

-- the rows of a run, and of runs
abbrev pub rows_of : List (Vec ℤ Global) → List Row
rows_of rows = map (λ row. row.items) rows

abbrev pub runs_of : List (Vec (Vec ℤ Global) Global) → List (List Row)
runs_of runs = map (λ run. rows_of run.items) runs

-- so many candidates hold on a pair, from a number on; the INVARIANT clauses are the first candidates
abbrev pub candidates_hold : RelationData → ℕ → ℕ → Pair → Bool
candidates_hold rel first zero pair = true
candidates_hold rel first (suc count) pair = candidate_holds rel.candidates first pair && candidates_hold rel (first + 1) count pair

module _ (old new : ProgramData) (rel : RelationData) where
  -- they hold on a pair and along rows from there: each row is allowed, and they hold after it
  abbrev pub held_along : ℕ → ℕ → List Row → Pair → Bool
  held_along first count [] pair = candidates_hold rel first count pair
  held_along first count (row ∷ rows) pair =
      candidates_hold rel first count pair && is_allowed rel row pair && held_along first count rows (after_row old new rel row pair)

  -- they hold along runs, each from the start
  abbrev pub held_on_runs : ℕ → ℕ → List (List Row) → Bool
  held_on_runs first count [] = true
  held_on_runs first count (run ∷ runs) = held_along first count run (start old new) && held_on_runs first count runs
