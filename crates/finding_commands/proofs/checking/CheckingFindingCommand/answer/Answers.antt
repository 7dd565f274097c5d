use Rattle.std.proofs.Common.{◌≡◌, ◌∙◌, Err, Ok, IfSome, ap, subst}
use Rattle.command_answers.specs.Reports.{Report}
use Rattle.command_answers.proofs.AnswerLemmas.{answers-wider}
use Rattle.judgement.specs.declared.answers.JudgeErr.{JudgeErr}
use Rattle.judgement.specs.declared.answers.JudgeErr.TheVariants.{Fault, M8}
use Rattle.judgement.specs.Findings.{IsJudged}
use Rattle.queries.specs.Settings.{setting_of}
use Rattle.comparison_files.specs.Held.{comparison_in}
use Rattle.finding_answers.specs.Lines.{most_bytes, judged_report, too_long_report}
use Rattle.finding_commands.specs.Checks.{ReportsFinding, judged, too_long}
use Rattle.finding_commands.proofs.checking.CheckingFindingCommand.answer.Goals as goal

pub returns-in-Ok-clause-answer : goal.returns-in-Ok-clause-answer
returns-in-Ok-clause-answer g c = λ file told.
    let compared = comparison_in c.args.compared.now in
    let formula = g.Q.Queries.formula c.args.queries.now in
    let said = c.in-Ok.judged in
    let is = subst (λ o. IfSome o (λ f. IsJudged (setting_of compared) formula most_bytes f (Ok said))) told c.in-Ok.ensures.exact in
    let held = c.relation.result.now.depth in
    let depth : held ≡ compared.relation.depth = ap (λ x. x.depth) c.relation.ensures in
    answers-wider (λ r. r ≡ judged_report held said) (ReportsFinding compared formula file) ⊥ _ c.put_judged.result _ _
    (λ r e. judged said is c.in-Ok.ensures.sound (e ∙ ap (λ d. judged_report d said) depth)) (λ x. absurd x) c.put_judged.ensures.answer

pub returns-in-Err-clause-answer : goal.returns-in-Err-clause-answer
returns-in-Err-clause-answer g c = λ file told.
    let compared = comparison_in c.args.compared.now in
    let formula = g.Q.Queries.formula c.args.queries.now in
    let error = c.in-Err.error in
    let is = subst (λ o. IfSome o (λ f. IsJudged (setting_of compared) formula most_bytes f (Err error))) told c.in-Err.ensures.exact in
    answers-wider (λ r. (error ≡ M8) × (r ≡ too_long_report)) (ReportsFinding compared formula file) (error ≡ Fault) _ c.put_unjudged.result _ _
    (λ (r : Report) (h : (error ≡ M8) × (r ≡ too_long_report)). too_long (subst (λ (e : JudgeErr). IsJudged (setting_of compared) formula most_bytes file (Err e)) h.0 is) h.1)
    (λ e. c.in-Err.ensures.cause.failed (ap Err e)) c.put_unjudged.ensures.answer

pub returns-in-Err-clause-read_fault : goal.returns-in-Err-clause-read_fault
returns-in-Err-clause-read_fault g c = λ e. c.in-Err.ensures.cause.failed (ap Err (c.put_unjudged.ensures.read_fault e))
