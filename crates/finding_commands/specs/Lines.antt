-- What is said of a finding that was to be explained: its report as a line, or what the judge says.
use Rattle.std.specs.Prelude.{ℕ, List, ◌++◌, codes, string_bytes}
use Rattle.finding_lines.specs.declared.line.Line.{Line}
use Rattle.finding_lines.specs.declared.line.Conclusion.{Conclusion}
use Rattle.queries.specs.Comparisons.{Comparison}
use Rattle.finding_report.specs.Reports.{report_text}
use Rattle.finding_explain.specs.declared.answers.Explained.{Explained}
use Rattle.finding_explain.specs.declared.answers.Explained.TheVariants as explanations
use Rattle.command_answers.specs.declared.status.Status.TheVariants.{Valid}
use Rattle.command_answers.specs.Reports.{Report}
use Rattle.finding_answers.specs.Lines.{invalid_report}

-- the report on the lines of a finding and its verdict, and a line feed
abbrev pub report_line : Comparison → List Line → Conclusion → List ℕ
report_line c ls verdict = report_text c ls verdict ++ codes "\n"

abbrev pub report_on : Comparison → List Line → Conclusion → Report
report_on c ls verdict = record { text = report_line c ls verdict; status = Valid }

-- what is said of a finding
abbrev pub explained_report : Explained → Report
explained_report (explanations.Valid text) = record { text = string_bytes text ++ codes "\n"; status = Valid }
explained_report (explanations.Bad line reason) = invalid_report line reason
