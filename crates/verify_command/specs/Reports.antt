-- What the command `verify` answers, and what it leaves of the finding.
use Rattle.std.specs.Prelude.{◌≡◌, ◌≢◌, ℕ, List, ◌++◌, Option, IfSome, Result, Ok, Err}
use Rattle.outside.specs.Causes.{Rose}
use Rattle.outside.specs.Contents.{extended, OthersStay}
use Rattle.outside.specs.States.{Change}
use Rattle.clause_core.specs.Formula.{Formula}
use Rattle.finding_file.specs.declared.errors.WriteErr.{WriteErr}
use Rattle.finding_file.specs.declared.errors.WriteErr.TheVariants.{Fault, Memory, M8}
use Rattle.queries.specs.Comparisons.{Comparison}
use Rattle.queries.specs.Questions.{QueryData}
use Rattle.queries.specs.Settings.{setting_of}
use Rattle.judgement.specs.Findings.{IsJudged}
use Rattle.judgement.specs.Shown.{IsShown, IsReachShown}
use Rattle.judgement.specs.declared.answers.Concluded.{Concluded}
use Rattle.judgement.specs.declared.answers.Judged.TheVariants.{Valid}
use Rattle.judgement.specs.declared.answers.Reach.TheVariants.{Untold}
use Rattle.finding_search.specs.Passing.{IsPartOfFinding, IsFull}
use Rattle.command_answers.specs.declared.status.Status.{Status}
use Rattle.command_answers.specs.Reports.{Report}
use Rattle.command_answers.specs.Ends.{Asking}
use Rattle.comparison_files.specs.Texts.{Texts, AreThreeTold, OneOfThreeRose}
use Rattle.comparison_files.specs.Accepting.{AreAccepted}
use Rattle.comparison_files.specs.Comparing.{formulas_of}
use Rattle.finding_answers.specs.Verdicts.{verdict_line, verdict_status, verdict_report, reach_line}
use Rattle.finding_answers.specs.Lines.{most_bytes, too_long_report, write_fault_report}
use Rattle.comparison_files.specs.Refusals.{ReportsRefusal}

-- a write of the finding has failed
abbrev pub HasFailed : Change → List ℕ → Type 0
HasFailed k name = Rose (k.before.write_faults name) (k.after.write_faults name)

-- where the finding is told, it is judged valid with this verdict and what is said of reach
abbrev pub IsSaved : Comparison → (QueryData → Formula) → Change → List ℕ → Concluded → Type 0
IsSaved c formula k name a = IfSome (k.after.file name) (λ file. IsJudged (setting_of c) formula most_bytes file (Ok (Valid a.verdict a.reach)))

-- a verdict and what is said of reach are shown, and the finding is of version 2
pub record AreShown (c : Comparison) (formula : QueryData → Formula) (a : Concluded) : Type 0 where
  pub shown : IsShown c formula a.verdict
  pub reached : IsReachShown c formula a.reach
  pub told : a.reach ≢ Untold

-- The report on what is compared, by the formula of each query: the verdict and the reach, which are shown, and whose finding is saved; that
-- the finding would be too long; or that a write of it has failed.
pub data ReportsVerdict (c : Comparison) (formula : QueryData → Formula) (k : Change) (name : List ℕ) (r : Report) : Type 0 where
  decided : (a : Concluded) → IsSaved c formula k name a → AreShown c formula a → r ≡ verdict_report c.relation.depth a → ReportsVerdict c formula k name r
  too_long : IsFull (setting_of c) formula (k.after.file name) most_bytes → r ≡ too_long_report → ReportsVerdict c formula k name r
  not_written : HasFailed k name → r ≡ write_fault_report → ReportsVerdict c formula k name r

-- The report on three texts: that they are not compared, where no file has changed; or that on what they state.
pub data VerifyReports (t : Texts) (k : Change) (name : List ℕ) (r : Report) : Type 0 where
  not_compared : ReportsRefusal t r → k.after.file ≡ k.before.file → VerifyReports t k name r
  on_pair : (c : Comparison) → AreAccepted t c → ReportsVerdict c (formulas_of c) k name r → VerifyReports t k name r

-- what is left of the finding: all as before; or, where it is told, lines that all pass, or such lines and a prefix of one more that would pass
pub data LeavesPart (c : Comparison) (formula : QueryData → Formula) (k : Change) (name : List ℕ) : Type 0 where
  untouched : k.after.file name ≡ k.before.file name → LeavesPart c formula k name
  a_part : IfSome (k.after.file name) (IsPartOfFinding (setting_of c) formula) → LeavesPart c formula k name

-- it is as before, or the texts are accepted, and it is a part of a finding on what they state
pub data IsLeft (t : Texts) (k : Change) (name : List ℕ) : Type 0 where
  as_before : k.after.file name ≡ k.before.file name → IsLeft t k name
  accepted : (c : Comparison) → AreAccepted t c → LeavesPart c (formulas_of c) k name → IsLeft t k name

-- what is asked for, by the names of the files
abbrev pub asking_to_verify : (old new rel finding : List ℕ) → Asking Texts
asking_to_verify old new rel finding = record {
  Tells = λ shelf t. AreThreeTold shelf.file old new rel t;
  Reports = λ k t r. VerifyReports t k finding r;
  ReadRose = λ k. OneOfThreeRose k.before.read_faults k.after.read_faults old new rel;
  WriteRose = λ k. HasFailed k finding;
  Keeps = λ k. OthersStay k.before.file k.after.file finding;
  Leaves = λ k t. IsLeft t k finding;
}

-- A verdict was put, with its status, and behind it what is said of reach: where the finding is told it is judged so by what the texts state;
-- the verdict is the model's, or SPENT with its log; and the reach is the model's, or the query for one row more is spent.
pub record ShowsSaved (t : Texts) (k : Change) (name : List ℕ) (status : Status) (old new : Option (List ℕ)) : Type 0 where
  pub compared : Comparison
  pub concluded : Concluded
  pub accepted : AreAccepted t compared
  pub saved : IsSaved compared (formulas_of compared) k name concluded
  pub shown : AreShown compared (formulas_of compared) concluded
  pub is : status ≡ verdict_status concluded.verdict
  pub put : new ≡ extended old (verdict_line concluded.verdict ++ reach_line compared.relation.depth concluded.reach)

-- what is reported on an attempt to save a finding
abbrev pub ReportsSaved : ℕ → Result Concluded WriteErr → Report → Type 0
ReportsSaved depth (Ok a) r = r ≡ verdict_report depth a
ReportsSaved depth (Err Fault) r = r ≡ write_fault_report
ReportsSaved depth (Err M8) r = r ≡ too_long_report
ReportsSaved depth (Err Memory) r = ⊥
