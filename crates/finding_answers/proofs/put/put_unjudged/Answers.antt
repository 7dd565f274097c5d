use Rattle.std.proofs.Common.{◌≡◌, rules}
use Rattle.judgement.specs.declared.answers.JudgeErr.TheVariants.{Fault, M8}
use Rattle.command_answers.proofs.AnswerLemmas.{answers-wider, fault_answered}
use Rattle.finding_answers.specs.Lines.{too_long_report}
use Rattle.finding_answers.proofs.put.put_unjudged.Goals as goal

pub returns-in-M8-clause-answer : goal.returns-in-M8-clause-answer
returns-in-M8-clause-answer g c =
    let error = c.args.error in
    let is : error ≡ M8 = search rules in
    answers-wider (λ r. r ≡ too_long_report) (λ r. (error ≡ M8) × (r ≡ too_long_report)) ⊥ (error ≡ Fault) c.put_limit.result _ _
    (λ r e. (is, e)) (λ x. absurd x) c.put_limit.ensures.answer

pub returns-in-Fault-clause-answer : goal.returns-in-Fault-clause-answer
returns-in-Fault-clause-answer g c =
    let error = c.args.error in
    let is : error ≡ Fault = search rules in
    fault_answered (λ r. (error ≡ M8) × (r ≡ too_long_report)) (error ≡ Fault) c.put_last.result _ _ is c.put_last.ensures.put
