use Rattle.std.proofs.Common.{◌≡◌, Err, rules, refl, sym, subst}
use Rattle.command_answers.proofs.AnswerLemmas.{answers-wider}
use Rattle.finding_file.specs.declared.errors.WriteErr.TheVariants.{Fault}
use Rattle.finding_answers.specs.Verdicts.{verdict_report}
use Rattle.finding_answers.specs.Lines.{write_fault_report}
use Rattle.verify_command.specs.Reports.{ReportsSaved}
use Rattle.verify_command.proofs.Saved.{write_fault_answered}
use Rattle.verify_command.proofs.finding.put_saved.Goals as goal

pub returns-in-Ok-clause-answer : goal.returns-in-Ok-clause-answer
returns-in-Ok-clause-answer g c =
    answers-wider (λ r. r ≡ verdict_report c.args.depth c.in-Ok.concluded) (ReportsSaved c.args.depth c.args.saved) ⊥ ⊥ c.put_verdict.result _ _
    (λ r e. rw c.in-Ok.is e) (λ x. x) c.put_verdict.ensures.answer

pub returns-in-Err-Fault-clause-answer : goal.returns-in-Err-Fault-clause-answer
returns-in-Err-Fault-clause-answer g c =
    let is : c.args.saved ≡ Err Fault = search rules in
    write_fault_answered (ReportsSaved c.args.depth c.args.saved) ⊥ c.put_last.result _ _ (subst (λ saved. ReportsSaved c.args.depth saved write_fault_report) (sym is) refl) c.put_last.ensures.put
