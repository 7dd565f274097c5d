-- What the formula of a query means, in the words of the model.
use Rattle.std.specs.Prelude.{◌≡◌, ℕ, Bool, true, IsTrue, List, [], ◌∷◌, length}
use Rattle.std.specs.List.{list_all}
use Rattle.clause_core.specs.Clauses.{is_set}
use Rattle.clause_core.specs.Formula.{Formula}
use Rattle.clause_core.specs.Satisfaction.{Satisfies}
use Rattle.scan_model.specs.InRange.{Row}
use Rattle.scan_model.specs.Pairs.{Pair, start, is_allowed}
use Rattle.scan_model.specs.Verdicts.{IsBreakFrom, AreAllowedFrom}
use Rattle.verdict_laws.specs.Evidence.{LeavesSet, LeavesRelation}
use Rattle.queries.specs.Comparisons.{Comparison}
use Rattle.queries.specs.Questions.{QueryData, first, step, goal, deep, walk}

-- A pair and rows are what a query asks for: a first row that is allowed; a pair in range that meets the set, and an allowed row
-- after which one of the set fails; the same, and the pair after the row is not related; a break of so many rows; so many rows that are allowed from the start.
abbrev pub Answers : Comparison → QueryData → Pair → List Row → Type 0
Answers c first pair rows = (row : Row) × (rows ≡ row ∷ []) × (is_allowed c.relation row (start c.old c.new) ≡ true)
Answers c (step set) pair rows = (row : Row) × (rows ≡ row ∷ []) × LeavesSet c.old c.new c.relation set pair row
Answers c (goal set) pair rows = (row : Row) × (rows ≡ row ∷ []) × LeavesRelation c.old c.new c.relation set pair row
Answers c (deep scans) pair rows = (length rows ≡ scans) × IsBreakFrom c.old c.new c.relation (start c.old c.new) rows
Answers c (walk count) pair rows = (length rows ≡ count) × AreAllowedFrom c.old c.new c.relation (start c.old c.new) rows

-- there is an answer to the query
abbrev pub HasAnswer : Comparison → QueryData → Type 0
HasAnswer c q = (pair : Pair) × (rows : List Row) × Answers c q pair rows

-- the formula has a solution exactly where the query has an answer, and its clauses are sets of literals
pub record Means (c : Comparison) (q : QueryData) (f : Formula) : Type 0 where
  pub found : (values : ℕ → Bool) → Satisfies values f.clauses → HasAnswer c q
  pub asked : HasAnswer c q → (values : ℕ → Bool) × Satisfies values f.clauses
  pub sets : IsTrue (list_all is_set f.clauses)
