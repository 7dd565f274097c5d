-- What the command `gen` answers, and what it leaves of its four files.
use Rattle.std.specs.Prelude.{◌≡◌, ◌≢◌, ◌⊎◌, ℕ, List, ◌++◌, Option}
use Rattle.outside.specs.Contents.{extended}
use Rattle.outside.specs.States.{Change}
use Rattle.clause_core.specs.Formula.{Formula}
use Rattle.queries.specs.Comparisons.{Comparison}
use Rattle.queries.specs.Questions.{QueryData}
use Rattle.judgement.specs.declared.answers.Concluded.{Concluded}
use Rattle.command_answers.specs.declared.status.Status.{Status}
use Rattle.command_answers.specs.Reports.{Report}
use Rattle.command_answers.specs.Ends.{Asking}
use Rattle.verify_command.specs.comparison_files.Accepting.{AreAccepted}
use Rattle.verify_command.specs.comparison_files.Comparing.{formulas_of}
use Rattle.verify_command.specs.comparison_files.Refusals.{ReportsRefusal}
use Rattle.verify_command.specs.comparison_files.Texts.{Texts}
use Rattle.generated_texts.specs.Names.{old_name, new_name, relation_name, finding_name}
use Rattle.generated_texts.specs.Files.{HoldTexts, LeaveTexts, OneTextFailed}
use Rattle.finding_answers.specs.Verdicts.{verdict_line, verdict_status, reach_line}
use Rattle.finding_answers.specs.Lines.{write_fault_report}
use Rattle.verify_command.specs.Reports.{HasFailed, IsSaved, AreShown, ReportsVerdict, IsLeft}
use Rattle.gen_command.specs.Made.{texts_of}
use Rattle.gen_command.specs.Lines.{made_line, behind, memory_report}

-- The report where the texts are saved: GEN's line, and behind it what `verify` reports, or that memory was wanting.
pub data ReportsBehind (count : ℕ) (c : Comparison) (formula : QueryData → Formula) (k : Change) (name : List ℕ) (r : Report) : Type 0 where
  verified : (last : Report) → ReportsVerdict c formula k name last → r ≡ behind (made_line count c) last → ReportsBehind count c formula k name r
  no_memory : r ≡ behind (made_line count c) memory_report → ReportsBehind count c formula k name r

-- The report on texts that are accepted: that a write of one of them has failed; or that all are saved, and what is reported then.
pub data ReportsAccepted (count : ℕ) (c : Comparison) (formula : QueryData → Formula) (k : Change) (r : Report) : Type 0 where
  not_saved : OneTextFailed count k.before.write_faults k.after.write_faults → r ≡ write_fault_report → ReportsAccepted count c formula k r
  saved : HoldTexts count k.after.file → ReportsBehind count c formula k (finding_name count) r → ReportsAccepted count c formula k r

-- The report on the texts that are made: that they are not compared, where no file has changed; or that on what they state.
pub data GenReports (count : ℕ) (k : Change) (r : Report) : Type 0 where
  not_compared : ReportsRefusal (texts_of count) r → k.after.file ≡ k.before.file → GenReports count k r
  on_pair : (c : Comparison) → AreAccepted (texts_of count) c → ReportsAccepted count c (formulas_of c) k r → GenReports count k r

-- a write of one of the four files has failed
abbrev pub OneFailed : ℕ → Change → Type 0
OneFailed count k = OneTextFailed count k.before.write_faults k.after.write_faults ⊎ HasFailed k (finding_name count)

-- no file changes but these four
abbrev pub KeepsOthers : ℕ → (List ℕ → Option (List ℕ)) → (List ℕ → Option (List ℕ)) → Type 0
KeepsOthers count before after =
    (other : List ℕ) → other ≢ old_name count → other ≢ new_name count → other ≢ relation_name count → other ≢ finding_name count → after other ≡ before other

-- a text's file is as before or has a front of the text, and the finding is as before or a part of one on what the texts state
pub record LeavesFiles (count : ℕ) (k : Change) : Type 0 where
  pub texts : LeaveTexts count k.before.file k.after.file
  pub finding : IsLeft (texts_of count) k (finding_name count)

-- what is asked for, by the number: no file is read
abbrev pub asking_to_generate : ℕ → Asking Texts
asking_to_generate count = record {
  Tells = λ shelf t. Unit {0};
  Reports = λ k t r. GenReports count k r;
  ReadRose = λ k. ⊥;
  WriteRose = λ k. OneFailed count k;
  Keeps = λ k. KeepsOthers count k.before.file k.after.file;
  Leaves = λ k t. LeavesFiles count k;
}

-- A verdict was put behind GEN's line, with its status: the texts are saved, and where the finding is told it is judged so by what they
-- state, the verdict is the model's, or SPENT with its log, and so is the reach, or the query for one row more is spent.
pub record ShowsMade (count : ℕ) (k : Change) (status : Status) (old new : Option (List ℕ)) : Type 0 where
  pub compared : Comparison
  pub concluded : Concluded
  pub accepted : AreAccepted (texts_of count) compared
  pub texts : HoldTexts count k.after.file
  pub saved : IsSaved compared (formulas_of compared) k (finding_name count) concluded
  pub shown : AreShown compared (formulas_of compared) concluded
  pub is : status ≡ verdict_status concluded.verdict
  pub put : new ≡ extended old (made_line count compared ++ (verdict_line concluded.verdict ++ reach_line compared.relation.depth concluded.reach))
