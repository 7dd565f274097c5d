-- What is answered to who wants a finding explained.
use Rattle.std.specs.Prelude.{◌≡◌, ℕ, ℤ, List, [], Option, Result, Ok, Err, string_bytes}
use Rattle.clause_core.specs.Formula.{Formula}
use Rattle.serde_json.specs.Written.{compact_text}
use Rattle.finding_lines.specs.declared.line.Line.{Line}
use Rattle.finding_lines.specs.declared.line.Conclusion.{Conclusion}
use Rattle.scan_model.specs.InRange.{Row}
use Rattle.scan_model.specs.Verdicts.{CandidateSet}
use Rattle.queries.specs.Comparisons.{Comparison}
use Rattle.queries.specs.Settings.{setting_of}
use Rattle.queries.specs.Questions.{QueryData}
use Rattle.finding_file.specs.declared.errors.ReadErr.{ReadErr}
use Rattle.finding_file.specs.declared.errors.ReadErr.TheVariants as read
use Rattle.judgement.specs.Places.{finished}
use Rattle.judgement.specs.Findings.{Stands, IsJudged}
use Rattle.judgement.specs.Shown.{IsShown}
use Rattle.judgement.specs.declared.answers.Reason.TheVariants.{B1, B13}
use Rattle.judgement.specs.declared.answers.Reach.{Reach}
use Rattle.judgement.specs.declared.answers.Judged.TheVariants as judged
use Rattle.judgement.specs.declared.answers.JudgeErr.{JudgeErr}
use Rattle.judgement.specs.declared.answers.JudgeErr.TheVariants.{Fault, Memory, M8}
use Rattle.finding_report.specs.Reports.{report_with, report_text}
use Rattle.finding_explain.specs.declared.answers.Explained.{Explained}
use Rattle.finding_explain.specs.declared.answers.Explained.TheVariants.{Valid, Bad}

-- What is said of a file: it is a finding, its verdict is shown, and this is the report on its lines and its verdict; else what the judge says.
abbrev pub IsExplained : Comparison → (QueryData → Formula) → ℕ → List ℕ → Result Explained JudgeErr → Type 0
IsExplained c formula limit file (Ok (Valid text)) =
    (ls : List Line) × (verdict : Conclusion) × (reach : Reach) × Stands (setting_of c) formula limit file ls (finished reach verdict) [] × IsShown c formula verdict × (string_bytes text ≡ report_text c ls verdict)
IsExplained c formula limit file (Ok (Bad line reason)) = IsJudged (setting_of c) formula limit file (Ok (judged.Bad line reason))
IsExplained c formula limit file (Err error) = IsJudged (setting_of c) formula limit file (Err error)

-- what is said where the file could not be read once more
abbrev pub unread : ReadErr → Result Explained JudgeErr
unread read.Fault = Err Fault
unread read.Memory = Err Memory
unread read.M8 = Err M8
unread (read.Spelling n) = Ok (Bad n B1)
unread (read.Unended n) = Ok (Bad n B13)

-- this is the report on these lines and this verdict; else the file failed, or memory did not suffice
abbrev pub IsReported : Comparison → List Line → Conclusion → Result Explained JudgeErr → Type 0
IsReported c ls verdict (Ok (Valid text)) = string_bytes text ≡ report_text c ls verdict
IsReported c ls verdict (Ok (Bad line reason)) = ⊥
IsReported c ls verdict (Err Fault) = Unit {0}
IsReported c ls verdict (Err Memory) = Unit {0}
IsReported c ls verdict (Err M8) = ⊥

-- whatever was read, a text is a report with this verdict
abbrev pub HasVerdict : Comparison → Conclusion → Result Explained JudgeErr → Type 0
HasVerdict c verdict (Ok (Valid text)) =
    (set : CandidateSet) × (pair : Option (List ℤ)) × (rows : List Row) × (string_bytes text ≡ compact_text (report_with c set pair rows verdict))
HasVerdict c verdict (Ok (Bad line reason)) = Unit {0}
HasVerdict c verdict (Err error) = Unit {0}

-- and the verdict is the model's, or SPENT with its log
abbrev pub ShowsReport : Comparison → (QueryData → Formula) → Result Explained JudgeErr → Type 0
ShowsReport c formula (Ok (Valid text)) = (verdict : Conclusion) × HasVerdict c verdict (Ok (Valid text)) × IsShown c formula verdict
ShowsReport c formula (Ok (Bad line reason)) = Unit {0}
ShowsReport c formula (Err error) = Unit {0}
