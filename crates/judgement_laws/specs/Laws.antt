-- Laws of judging.
use Rattle.std.specs.Prelude.{◌≡◌, ◌≢◌, ℕ, suc, ◌≤◌, ℤ, pos, List, [], ◌∷◌, ◌++◌, length, All, Result, Ok, Err}
use Rattle.clause_core.specs.Formula.{Formula}
use Rattle.clause_core.specs.declared.step.Step.{Step}
use Rattle.finding_lines.specs.declared.line.Asked.{Asked}
use Rattle.finding_lines.specs.declared.line.Line.{Line}
use Rattle.finding_lines.specs.declared.line.Line.TheVariants as lines
use Rattle.finding_lines.specs.declared.line.Conclusion.{Conclusion}
use Rattle.finding_lines.specs.declared.line.Conclusion.TheVariants.{Spent}
use Rattle.finding_file.specs.Writing.{all_written}
use Rattle.queries.specs.Comparisons.{Comparison, IsComparison}
use Rattle.queries.specs.Settings.{Setting, setting_of}
use Rattle.queries.specs.Questions.{QueryData, walk, IsQueryOf}
use Rattle.queries.specs.Meaning.{Means}
use Rattle.judgement.specs.Steps.{step_of}
use Rattle.judgement.specs.Places.{finished}
use Rattle.judgement.specs.Findings.{Leads, IsJudged}
use Rattle.judgement.specs.Shown.{asked_of, Spends}
use Rattle.judgement.specs.declared.answers.Reach.{Reach}
use Rattle.judgement.specs.declared.answers.Reach.TheVariants.{AtLeast}
use Rattle.judgement.specs.declared.answers.Judged.{Judged}
use Rattle.judgement.specs.declared.answers.Judged.TheVariants.{Valid, Bad}
use Rattle.judgement.specs.declared.answers.Reason.TheVariants.{B13}
use Rattle.judgement.specs.declared.answers.JudgeErr.{JudgeErr}
use Rattle.judgement.specs.declared.answers.JudgeErr.TheVariants.{Fault, Memory, M8}

-- something is said: the file did not fail, and memory sufficed
abbrev pub IsSaid : Result Judged JudgeErr → Type 0
IsSaid (Ok judged) = Unit {0}
IsSaid (Err M8) = Unit {0}
IsSaid (Err Fault) = ⊥
IsSaid (Err Memory) = ⊥

-- one thing is said of a file
abbrev pub OneJudgement : Type 0
OneJudgement =
    (s : Setting) (formula : QueryData → Formula) (limit : ℕ) (file : List ℕ) (a b : Result Judged JudgeErr) → IsJudged s formula limit file a → IsJudged s formula limit file b
    → IsSaid a → IsSaid b → a ≡ b

-- lines that all pass and lead behind an END line are a finding, as they are written
abbrev pub WrittenIsValid : Type 0
WrittenIsValid =
    (s : Setting) (formula : QueryData → Formula) (limit : ℕ) (all : List Line) (verdict : Conclusion) (reach : Reach) → Leads s formula all (finished reach verdict)
    → length (all_written all) ≤ limit → IsJudged s formula limit (all_written all) (Ok (Valid verdict reach))

-- a line of a log: a derived clause, or the numbers of clauses that are held no more
abbrev pub IsLogLine : Line → Type 0
IsLogLine (lines.Derived literals hints) = Unit {0}
IsLogLine (lines.Deleted ids) = Unit {0}
IsLogLine line = ⊥

-- the steps of D lines
abbrev pub steps_in : List Line → List Step
steps_in [] = []
steps_in (lines.Derived literals hints ∷ ls) = step_of literals hints ∷ steps_in ls
steps_in (line ∷ ls) = steps_in ls

-- A file holds the log that spends a query: behind its QUERY line stand D and X lines, and the D lines are exactly CONFLICTS.
pub record HoldsSpentLog (c : Comparison) (formula : QueryData → Formula) (file : List ℕ) (query : QueryData) : Type 0 where
  pub front : List Line
  pub log : List Line
  pub behind : List Line
  pub is_query : IsQueryOf c query
  pub whole : file ≡ all_written (front ++ lines.Query (asked_of query) ∷ log ++ behind)
  pub logged : All IsLogLine log
  pub spends : Spends (formula query) c.relation.conflicts (steps_in log)

-- where a finding is valid and its verdict SPENT, it holds the log
abbrev pub SpentIsLogged : Type 0
SpentIsLogged =
    (c : Comparison) (formula : QueryData → Formula) → IsComparison c → ((query : QueryData) → IsQueryOf c query → Means c query (formula query))
    → (limit : ℕ) (file : List ℕ) (asked : Asked) (count : ℤ) (reach : Reach) → IsJudged (setting_of c) formula limit file (Ok (Valid (Spent asked count) reach))
    → (query : QueryData) × (asked ≡ asked_of query) × (count ≡ pos c.relation.conflicts) × HoldsSpentLog c formula file query

-- where it says that the query for one row more is spent, it holds that log
abbrev pub ReachSpentIsLogged : Type 0
ReachSpentIsLogged =
    (c : Comparison) (formula : QueryData → Formula) → IsComparison c → ((query : QueryData) → IsQueryOf c query → Means c query (formula query))
    → (limit : ℕ) (file : List ℕ) (verdict : Conclusion) (rows : ℕ) → IsJudged (setting_of c) formula limit file (Ok (Valid verdict (AtLeast rows)))
    → HoldsSpentLog c formula file (walk (suc rows))

-- a finding that is cut off before its end is none: where it ends, the end of a line is missing
abbrev pub PrefixIsCutOff : Type 0
PrefixIsCutOff =
    (s : Setting) (formula : QueryData → Formula) (limit : ℕ) (file front behind : List ℕ) (verdict : Conclusion) (reach : Reach) → IsJudged s formula limit file (Ok (Valid verdict reach))
    → file ≡ front ++ behind → behind ≢ [] → (line : ℕ) × IsJudged s formula limit front (Ok (Bad line B13))
