-- Rows that are allowed, one after the other from the start, and what shows that there is no list of one row more.
use Rattle.std.specs.Prelude.{◌≡◌, ◌<◌, ◌≤◌, ℕ, suc, List, length}
use Rattle.clause_core.specs.Decisions.{IsRefutation, IsSpent}
use Rattle.clause_core.specs.Formula.{Formula}
use Rattle.scan_model.specs.InRange.{Row}
use Rattle.scan_model.specs.Pairs.{Pair, start}
use Rattle.scan_model.specs.Runs.{after_rows}
use Rattle.scan_model.specs.Verdicts.{AreAllowedFrom}
use Rattle.queries.specs.Comparisons.{Comparison}
use Rattle.queries.specs.Questions.{QueryData, walk}
use Rattle.reach_search.specs.declared.walk.End.{End}
use Rattle.reach_search.specs.declared.walk.End.TheVariants.{Full, Refuted, Spent}
use Rattle.reach_search.specs.declared.walk.Walk.{Walk}

module _ (c : Comparison) where
  -- each row is allowed on the pair that those before it leave, from the start
  abbrev pub AreAllowed : List Row → Type 0
  AreAllowed rows = AreAllowedFrom c.old c.new c.relation (start c.old c.new) rows

  -- the pair that rows leave, one after the other from the start
  abbrev pub behind : List Row → Pair
  behind rows = after_rows c.old c.new c.relation rows (start c.old c.new)

  -- one row at least and DEPTH at most, all allowed, lead to the pair
  pub record IsReached (rows : List Row) (pair : Pair) : Type 0 where
    pub allowed : AreAllowed rows
    pub some : 1 ≤ length rows
    pub most : length rows ≤ c.relation.depth
    pub leads : pair ≡ behind rows

  -- Behind so many rows the list is full; or a log shows that there is none of one row more, or spends the query for it.
  abbrev pub EndsSo : (QueryData → Formula) → ℕ → ℕ → End → Type 0
  EndsSo formula limit count Full = count ≡ c.relation.depth
  EndsSo formula limit count (Refuted log) = (count < c.relation.depth) × IsRefutation (formula (walk (suc count))) limit log
  EndsSo formula limit count (Spent log) = (count < c.relation.depth) × IsSpent (formula (walk (suc count))) limit log

  -- one row at least and DEPTH at most, all allowed, and what comes behind them
  pub record IsWalk (formula : QueryData → Formula) (limit : ℕ) (w : Walk) : Type 0 where
    pub allowed : AreAllowed w.rows.items
    pub some : 1 ≤ length w.rows.items
    pub most : length w.rows.items ≤ c.relation.depth
    pub ends : EndsSo formula limit (length w.rows.items) w.end
