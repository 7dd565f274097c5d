-- The queries that are asked of what is compared.
use Rattle.std.specs.Prelude.{ℕ, ◌≤◌}
use Rattle.scan_model.specs.Verdicts.{CandidateSet}
use Rattle.queries.specs.declared.query.Query.{Query}
use Rattle.queries.specs.declared.query.Query.TheVariants as queries
use Rattle.queries.specs.Comparisons.{Comparison}
use Rattle.queries.specs.Sets.{members}

pub data QueryData : Type 0 where
  -- for a first row that is allowed
  first : QueryData
  -- for a step out of a set
  step : CandidateSet → QueryData
  -- for a step from a set out of the relation
  goal : CandidateSet → QueryData
  -- for a break after so many scans
  deep : ℕ → QueryData
  -- for so many rows that are allowed, one after the other from the start
  walk : ℕ → QueryData

abbrev pub query_view : Query → QueryData
query_view queries.First = first
query_view (queries.Step set) = step (members set.now)
query_view (queries.Goal set) = goal (members set.now)
query_view (queries.Deep scans) = deep scans
query_view (queries.Walk rows) = walk rows

-- a query for one scan from any pair
abbrev pub IsOfOneScan : QueryData → Type 0
IsOfOneScan first = ⊥
IsOfOneScan (step set) = Unit {0}
IsOfOneScan (goal set) = Unit {0}
IsOfOneScan (deep scans) = ⊥
IsOfOneScan (walk rows) = ⊥

-- a query for a break, or for allowed rows, asks for 1 to DEPTH scans
abbrev pub IsQueryOf : Comparison → QueryData → Type 0
IsQueryOf c first = Unit {0}
IsQueryOf c (step set) = Unit {0}
IsQueryOf c (goal set) = Unit {0}
IsQueryOf c (deep scans) = (1 ≤ scans) × (scans ≤ c.relation.depth)
IsQueryOf c (walk rows) = (1 ≤ rows) × (rows ≤ c.relation.depth)
