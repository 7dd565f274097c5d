-- How lines that pass end, where they stand in the log of a query or behind it.
use Rattle.std.specs.Prelude.{◌≡◌, ℕ, suc, pos, List, ◌∷◌, ◌++◌, All}
use Rattle.clause_core.specs.Formula.{Formula}
use Rattle.finding_lines.specs.declared.line.Asked.{Asked}
use Rattle.finding_lines.specs.declared.line.Conclusion.{Conclusion}
use Rattle.finding_lines.specs.declared.line.Conclusion.TheVariants.{Spent}
use Rattle.finding_lines.specs.declared.line.Line.{Line}
use Rattle.finding_lines.specs.declared.line.Line.TheVariants as lines
use Rattle.derivation_check.specs.Checks.{Derivation}
use Rattle.queries.specs.Comparisons.{Comparison}
use Rattle.queries.specs.Questions.{QueryData, walk, IsQueryOf}
use Rattle.judgement.specs.declared.answers.Reach.{Reach}
use Rattle.judgement.specs.declared.answers.Reach.TheVariants.{AtLeast}
use Rattle.judgement.specs.Places.{Place, at_header, at_drops, at_kept, at_deep, at_scans, at_end, finished, in_log, in_walk, in_query, reach_at, Moved, goes, fails}
use Rattle.judgement.specs.Shown.{asked_of, Spends}
use Rattle.judgement.specs.Known.{KnownInQuery}
use Rattle.judgement_laws.specs.Laws.{IsLogLine, steps_in}

abbrev pub IsNotSpent : Conclusion → Type 0
IsNotSpent (Spent asked count) = ⊥
IsNotSpent conclusion = Unit {0}

-- a place that a log which refutes its query leads to
abbrev pub IsBehindLog : Place → Type 0
IsBehindLog (at_drops reach set) = Unit {0}
IsBehindLog (at_kept reach set) = Unit {0}
IsBehindLog (at_deep reach set none) = Unit {0}
IsBehindLog (at_end reach verdict) = IsNotSpent verdict
IsBehindLog place = ⊥

-- the lines end with QUERY and the lines of its log
pub record EndsInQuery (c : Comparison) (formula : QueryData → Formula) (some : List Line) (query : QueryData) (d : Derivation) (left : ℕ) : Type 0 where
  pub front : List Line
  pub log : List Line
  pub whole : some ≡ front ++ lines.Query (asked_of query) ∷ log
  pub logged : All IsLogLine log
  pub known : KnownInQuery c formula query d left (steps_in log)

-- the log that spends a query stands among the lines
pub record HoldLog (c : Comparison) (formula : QueryData → Formula) (some : List Line) (query : QueryData) : Type 0 where
  pub front : List Line
  pub log : List Line
  pub behind : List Line
  pub is_query : IsQueryOf c query
  pub whole : some ≡ front ++ lines.Query (asked_of query) ∷ log ++ behind
  pub logged : All IsLogLine log
  pub spends : Spends (formula query) c.relation.conflicts (steps_in log)

-- where the query for one row more is spent, its log stands among them
abbrev pub ReachShape : Comparison → (QueryData → Formula) → List Line → Reach → Type 0
ReachShape c formula some (AtLeast rows) = HoldLog c formula some (walk (suc rows))
ReachShape c formula some reach = Unit {0}

-- and where the verdict is SPENT, that of its query
abbrev pub SpentShape : Comparison → (QueryData → Formula) → List Line → Conclusion → Type 0
SpentShape c formula some (Spent asked count) =
    (query : QueryData) × (asked ≡ asked_of query) × (count ≡ pos c.relation.conflicts) × HoldLog c formula some query
SpentShape c formula some verdict = Unit {0}

-- the query of that name is being spent
abbrev pub QueryShape : Comparison → (QueryData → Formula) → List Line → Asked → Derivation → ℕ → Type 0
QueryShape c formula some asked d left = (query : QueryData) × (asked ≡ asked_of query) × EndsInQuery c formula some query d left

abbrev pub Shape : Comparison → (QueryData → Formula) → List Line → Place → Type 0
Shape c formula some (at_header reach) = ReachShape c formula some reach
Shape c formula some (at_drops reach set) = ReachShape c formula some reach
Shape c formula some (at_kept reach set) = ReachShape c formula some reach
Shape c formula some (at_deep reach set none) = ReachShape c formula some reach
Shape c formula some (at_scans reach scans more pair) = ReachShape c formula some reach
Shape c formula some (at_end reach verdict) = IsNotSpent verdict × ReachShape c formula some reach
Shape c formula some (finished reach verdict) = SpentShape c formula some verdict × ReachShape c formula some reach
Shape c formula some (in_log d behind) = IsBehindLog behind × ReachShape c formula some (reach_at behind)
Shape c formula some (in_query reach asked d left) = QueryShape c formula some asked d left × ReachShape c formula some reach
Shape c formula some (in_walk count d left) = EndsInQuery c formula some (walk (suc count)) d left
Shape c formula some place = Unit {0}

abbrev pub ShapeAfter : Comparison → (QueryData → Formula) → List Line → Moved → Type 0
ShapeAfter c formula some (goes place) = Shape c formula some place
ShapeAfter c formula some (fails reason) = Unit {0}
