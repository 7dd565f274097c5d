-- There is one report of `check` on four texts, the place of G1 apart.
use Rattle.std.proofs.Common.{◌≡◌, ℕ, List, Ok, Err, Result, sym, ap, ◌∙◌}
use Rattle.clause_core.specs.Formula.{Formula}
use Rattle.judgement.specs.declared.answers.Judged.{Judged}
use Rattle.judgement.specs.declared.answers.JudgeErr.{JudgeErr}
use Rattle.judgement.specs.declared.answers.JudgeErr.TheVariants.{M8}
use Rattle.judgement_laws.proofs.Judgements.{one_judgement_is}
use Rattle.queries.specs.Comparisons.{Comparison}
use Rattle.queries.specs.Questions.{QueryData}
use Rattle.queries.specs.Settings.{setting_of}
use Rattle.command_answers.specs.Reports.{Report}
use Rattle.command_answers.specs.Alike.{AreAlike}
use Rattle.comparison_files.specs.Texts.{Texts}
use Rattle.finding_answers.specs.Lines.{most_bytes, judged_report, too_long_report}
use Rattle.finding_commands.proofs.Once as of_four
use Rattle.finding_commands.specs.Checks.{CheckReports, ReportsFinding, judged, too_long}

-- the report on what is said of a finding, on a relation of such a DEPTH
abbrev report_of : ℕ → Result Judged JudgeErr → Report
report_of depth (Ok said) = judged_report depth said
report_of depth (Err e) = too_long_report

finding_once : (c : Comparison) (formula : QueryData → Formula) (finding : List ℕ) (r s : Report) → ReportsFinding c formula finding r → ReportsFinding c formula finding s → r ≡ s
finding_once c formula finding r s (judged a is shown e) (judged b is' shown' d) =
    e ∙ ap (report_of c.relation.depth) (one_judgement_is (setting_of c) formula most_bytes finding (Ok a) (Ok b) is is' tt tt) ∙ sym d
finding_once c formula finding r s (judged a is shown e) (too_long is' d) =
    e ∙ ap (report_of c.relation.depth) (one_judgement_is (setting_of c) formula most_bytes finding (Ok a) (Err M8) is is' tt tt) ∙ sym d
finding_once c formula finding r s (too_long is e) (judged b is' shown' d) =
    e ∙ ap (report_of c.relation.depth) (one_judgement_is (setting_of c) formula most_bytes finding (Err M8) (Ok b) is is' tt tt) ∙ sym d
finding_once c formula finding r s (too_long is e) (too_long is' d) = e ∙ sym d

pub reports_once : (t : Texts) (r s : Report) → CheckReports t r → CheckReports t s → AreAlike r s
reports_once t r s h k = of_four.reports_once ReportsFinding finding_once t r s h k
