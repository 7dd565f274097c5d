use Rattle.std.proofs.Common.{◌≡◌, Err, Ok, IfSome, ap, subst}
use Rattle.command_answers.specs.Reports.{Report}
use Rattle.command_answers.proofs.AnswerLemmas.{answers-wider}
use Rattle.judgement.specs.declared.answers.JudgeErr.{JudgeErr}
use Rattle.judgement.specs.declared.answers.JudgeErr.TheVariants.{Fault, M8}
use Rattle.comparison_files.specs.Held.{comparison_in}
use Rattle.finding_explain.specs.Explaining.{IsExplained}
use Rattle.finding_answers.specs.Lines.{most_bytes, too_long_report}
use Rattle.finding_commands.specs.Lines.{explained_report}
use Rattle.finding_commands.specs.Explanations.{ReportsExplained, too_long}
use Rattle.finding_commands.proofs.ExplanationAnswers.{reported}
use Rattle.finding_commands.proofs.explaining.ExplainingFindingCommand.answer.Goals as goal

pub returns-in-Ok-clause-answer : goal.returns-in-Ok-clause-answer
returns-in-Ok-clause-answer g c = λ file told.
    let compared = comparison_in c.args.compared.now in
    let formula = g.Q.Queries.formula c.args.queries.now in
    let said = c.in-Ok.explained in
    let is = subst (λ o. IfSome o (λ f. IsExplained compared formula most_bytes f (Ok said))) told c.in-Ok.ensures.exact in
    answers-wider (λ r. r ≡ explained_report said) (ReportsExplained compared formula file) ⊥ _ c.put_explained.result _ _
    (λ r e. reported compared formula file said r is e) (λ x. absurd x) c.put_explained.ensures.answer

pub returns-in-Err-clause-answer : goal.returns-in-Err-clause-answer
returns-in-Err-clause-answer g c = λ file told.
    let compared = comparison_in c.args.compared.now in
    let formula = g.Q.Queries.formula c.args.queries.now in
    let error = c.in-Err.error in
    let is = subst (λ o. IfSome o (λ f. IsExplained compared formula most_bytes f (Err error))) told c.in-Err.ensures.exact in
    answers-wider (λ r. (error ≡ M8) × (r ≡ too_long_report)) (ReportsExplained compared formula file) (error ≡ Fault) _ c.put_unjudged.result _ _
    (λ (r : Report) (h : (error ≡ M8) × (r ≡ too_long_report)). too_long (subst (λ (e : JudgeErr). IsExplained compared formula most_bytes file (Err e)) h.0 is) h.1)
    (λ e. c.in-Err.ensures.cause.failed (ap Err e)) c.put_unjudged.ensures.answer

pub returns-in-Err-clause-read_fault : goal.returns-in-Err-clause-read_fault
returns-in-Err-clause-read_fault g c = λ e. c.in-Err.ensures.cause.failed (ap Err (c.put_unjudged.ensures.read_fault e))
