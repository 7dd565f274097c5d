-- What the command `check` answers.
use Rattle.std.specs.Prelude.{◌≡◌, ℕ, List, ◌++◌, Option, Ok, Err}
use Rattle.outside.specs.Contents.{extended}
use Rattle.clause_core.specs.Formula.{Formula}
use Rattle.finding_lines.specs.declared.line.Conclusion.{Conclusion}
use Rattle.queries.specs.Comparisons.{Comparison}
use Rattle.queries.specs.Questions.{QueryData}
use Rattle.queries.specs.Settings.{setting_of}
use Rattle.judgement.specs.Findings.{IsJudged}
use Rattle.judgement.specs.Shown.{IsShown, IsReachShown, ShowsVerdict}
use Rattle.judgement.specs.declared.answers.Reach.{Reach}
use Rattle.judgement.specs.declared.answers.Judged.{Judged}
use Rattle.judgement.specs.declared.answers.Judged.TheVariants.{Valid}
use Rattle.judgement.specs.declared.answers.JudgeErr.TheVariants.{M8}
use Rattle.command_answers.specs.Reports.{Report}
use Rattle.command_answers.specs.Ends.{Asking}
use Rattle.comparison_files.specs.Reading.{asking_to_read}
use Rattle.comparison_files.specs.Texts.{Texts}
use Rattle.comparison_files.specs.Accepting.{AreAccepted}
use Rattle.comparison_files.specs.Comparing.{formulas_of}
use Rattle.finding_answers.specs.Verdicts.{valid_line, reach_line}
use Rattle.finding_answers.specs.Lines.{most_bytes, judged_report, too_long_report}
use Rattle.finding_commands.specs.Reports.{ReportsOn}

-- The report on a finding, by a comparison and the formula of each query: what is said of it, which is shown; or that it is too long.
pub data ReportsFinding (c : Comparison) (formula : QueryData → Formula) (finding : List ℕ) (r : Report) : Type 0 where
  judged : (said : Judged) → IsJudged (setting_of c) formula most_bytes finding (Ok said) → ShowsVerdict c formula (Ok said)
      → r ≡ judged_report c.relation.depth said → ReportsFinding c formula finding r
  too_long : IsJudged (setting_of c) formula most_bytes finding (Err M8) → r ≡ too_long_report → ReportsFinding c formula finding r

-- the report on four texts
abbrev pub CheckReports : Texts → Report → Type 0
CheckReports t r = ReportsOn ReportsFinding t r

-- what is asked for, by the names of the files
abbrev pub asking_to_check : (old new rel finding : List ℕ) → Asking Texts
asking_to_check old new rel finding = asking_to_read CheckReports old new rel finding (λ t. t.finding)

-- VALID, a verdict and what is said of reach were put: the finding is judged so by what the texts state; the verdict is the model's, or
-- SPENT with its log; and the reach is the model's, or the query for one row more is spent.
pub record ShowsValid (t : Texts) (old new : Option (List ℕ)) : Type 0 where
  pub compared : Comparison
  pub verdict : Conclusion
  pub reach : Reach
  pub accepted : AreAccepted t compared
  pub judged : IsJudged (setting_of compared) (formulas_of compared) most_bytes t.finding (Ok (Valid verdict reach))
  pub shown : IsShown compared (formulas_of compared) verdict
  pub reached : IsReachShown compared (formulas_of compared) reach
  pub put : new ≡ extended old (valid_line verdict ++ reach_line compared.relation.depth reach)
