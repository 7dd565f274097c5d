-- What the command `explain` answers.
use Rattle.std.specs.Prelude.{◌≡◌, ℕ, List, [], Option, Ok, Err}
use Rattle.outside.specs.Contents.{extended}
use Rattle.clause_core.specs.Formula.{Formula}
use Rattle.finding_lines.specs.declared.line.Line.{Line}
use Rattle.finding_lines.specs.declared.line.Conclusion.{Conclusion}
use Rattle.queries.specs.Comparisons.{Comparison}
use Rattle.queries.specs.Questions.{QueryData}
use Rattle.queries.specs.Settings.{setting_of}
use Rattle.judgement.specs.Places.{finished}
use Rattle.judgement.specs.Findings.{Stands, IsJudged}
use Rattle.judgement.specs.Shown.{IsShown}
use Rattle.judgement.specs.declared.answers.Reach.{Reach}
use Rattle.judgement.specs.declared.answers.Reason.{Reason}
use Rattle.judgement.specs.declared.answers.Judged.TheVariants.{Bad}
use Rattle.judgement.specs.declared.answers.JudgeErr.TheVariants.{M8}
use Rattle.command_answers.specs.Reports.{Report}
use Rattle.command_answers.specs.Ends.{Asking}
use Rattle.comparison_files.specs.Reading.{asking_to_read}
use Rattle.comparison_files.specs.Texts.{Texts}
use Rattle.comparison_files.specs.Accepting.{AreAccepted}
use Rattle.comparison_files.specs.Comparing.{formulas_of}
use Rattle.finding_answers.specs.Lines.{most_bytes, invalid_report, too_long_report}
use Rattle.finding_commands.specs.Reports.{ReportsOn}
use Rattle.finding_commands.specs.Lines.{report_line, report_on}

-- The report on a finding, by a comparison and the formula of each query: where it is valid, that on its lines and its verdict, which is
-- shown; else the first line that fails; or that it is too long.
pub data ReportsExplained (c : Comparison) (formula : QueryData → Formula) (finding : List ℕ) (r : Report) : Type 0 where
  explained : (ls : List Line) (verdict : Conclusion) (reach : Reach) → Stands (setting_of c) formula most_bytes finding ls (finished reach verdict) [] → IsShown c formula verdict
      → r ≡ report_on c ls verdict → ReportsExplained c formula finding r
  invalid : (line : ℕ) (reason : Reason) → IsJudged (setting_of c) formula most_bytes finding (Ok (Bad line reason)) → r ≡ invalid_report line reason → ReportsExplained c formula finding r
  too_long : IsJudged (setting_of c) formula most_bytes finding (Err M8) → r ≡ too_long_report → ReportsExplained c formula finding r

-- the report on four texts
abbrev pub ExplainReports : Texts → Report → Type 0
ExplainReports t r = ReportsOn ReportsExplained t r

-- what is asked for, by the names of the files
abbrev pub asking_to_explain : (old new rel finding : List ℕ) → Asking Texts
asking_to_explain old new rel finding = asking_to_read ExplainReports old new rel finding (λ t. t.finding)

-- A report was put: the finding is these lines, which are valid by what the texts state; the verdict is the model's, or SPENT with its
-- log; and what was put is the report on them.
pub record ShowsExplained (t : Texts) (old new : Option (List ℕ)) : Type 0 where
  pub compared : Comparison
  pub lines : List Line
  pub verdict : Conclusion
  pub reach : Reach
  pub accepted : AreAccepted t compared
  pub stands : Stands (setting_of compared) (formulas_of compared) most_bytes t.finding lines (finished reach verdict) []
  pub shown : IsShown compared (formulas_of compared) verdict
  pub put : new ≡ extended old (report_line compared lines verdict)
