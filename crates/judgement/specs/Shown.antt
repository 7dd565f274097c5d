-- What a finding that is judged valid shows.
use Rattle.std.specs.Prelude.{◌≡◌, ℕ, suc, ◌≤◌, pos, List, length, Result, Ok, Err}
use Rattle.clause_core.specs.declared.step.Step.{Step}
use Rattle.clause_core.specs.Formula.{Formula}
use Rattle.clause_core.specs.Logs.{AreAccepted, AreFresh}
use Rattle.finding_lines.specs.declared.line.Asked.{Asked}
use Rattle.finding_lines.specs.declared.line.Asked.TheVariants as questions
use Rattle.finding_lines.specs.declared.line.Conclusion.{Conclusion}
use Rattle.finding_lines.specs.declared.line.Conclusion.TheVariants as conclusions
use Rattle.scan_model.specs.declared.verdict.Verdict.{Verdict}
use Rattle.scan_model.specs.declared.verdict.Verdict.TheVariants as verdicts
use Rattle.scan_model.specs.Verdicts.{IsVerdict}
use Rattle.verdict_laws.specs.Reach.{HasWalk, IsReach}
use Rattle.queries.specs.Comparisons.{Comparison}
use Rattle.queries.specs.Questions.{QueryData, first, step, goal, deep, walk, IsQueryOf}
use Rattle.judgement.specs.declared.answers.Judged.{Judged}
use Rattle.judgement.specs.declared.answers.Judged.TheVariants.{Valid, Bad}
use Rattle.judgement.specs.declared.answers.JudgeErr.{JudgeErr}
use Rattle.judgement.specs.declared.answers.Reach.{Reach}
use Rattle.judgement.specs.declared.answers.Reach.TheVariants.{Untold, Unwalked, Greatest, AtLeast}

-- a verdict as it is written
abbrev pub conclusion_of : Verdict → Conclusion
conclusion_of verdicts.Vacuous = conclusions.Vacuous
conclusion_of (verdicts.Related kept candidates) = conclusions.Related (pos kept) (pos candidates)
conclusion_of (verdicts.Different scans) = conclusions.Different (pos scans)
conclusion_of (verdicts.Open kept candidates depth) = conclusions.Open (pos kept) (pos candidates) (pos depth)

-- a query as it is written
abbrev pub asked_of : QueryData → Asked
asked_of first = questions.First
asked_of (step set) = questions.Step
asked_of (goal set) = questions.Goal
asked_of (deep scans) = questions.Deep (pos scans)
asked_of (walk rows) = questions.Walk (pos rows)

-- A log spends a formula: exactly so many steps, each accepted and fresh over all clauses before it, none empty. Clauses that a
-- finding holds no more count too: a step is fresh over what is held exactly where it is fresh over all.
pub record Spends (f : Formula) (limit : ℕ) (log : List Step) : Type 0 where
  pub all : length log ≡ limit
  pub accepted : AreAccepted f.variables f.clauses log
  pub fresh : AreFresh f.clauses log

-- the model gives this verdict
abbrev pub IsModelVerdict : Comparison → Conclusion → Type 0
IsModelVerdict c conclusion = (verdict : Verdict) × (conclusion ≡ conclusion_of verdict) × IsVerdict c.old c.new c.relation verdict

-- Some query of that name is spent, and nothing is said of the programs.
abbrev pub IsSpent : Comparison → (QueryData → Formula) → Conclusion → Type 0
IsSpent c formula conclusion =
    (query : QueryData) × (log : List Step) × IsQueryOf c query × Spends (formula query) c.relation.conflicts log
    × (conclusion ≡ conclusions.Spent (asked_of query) (pos c.relation.conflicts))

-- the verdict is the model's, or SPENT with its log
abbrev pub IsShown : Comparison → (QueryData → Formula) → Conclusion → Type 0
IsShown c formula (conclusions.Spent asked count) = IsSpent c formula (conclusions.Spent asked count)
IsShown c formula conclusion = IsModelVerdict c conclusion

-- What is said of reach is the model's: so many rows are allowed, and no more up to DEPTH. Or so many are, and the query for one more is
-- spent.
abbrev pub IsReachShown : Comparison → (QueryData → Formula) → Reach → Type 0
IsReachShown c formula Untold = Unit {0}
IsReachShown c formula Unwalked = Unit {0}
IsReachShown c formula (Greatest rows) = IsReach c.old c.new c.relation rows
IsReachShown c formula (AtLeast rows) =
    HasWalk c.old c.new c.relation rows × (suc rows ≤ c.relation.depth)
    × ((log : List Step) × Spends (formula (walk (suc rows))) c.relation.conflicts log)

-- an answer that a finding is valid says no more than is shown
abbrev pub ShowsVerdict : Comparison → (QueryData → Formula) → Result Judged JudgeErr → Type 0
ShowsVerdict c formula (Ok (Valid verdict reach)) = IsShown c formula verdict × IsReachShown c formula reach
ShowsVerdict c formula (Ok (Bad line reason)) = Unit {0}
ShowsVerdict c formula (Err _) = Unit {0}
