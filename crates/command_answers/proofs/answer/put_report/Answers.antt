use Rattle.std.proofs.Common.{◌≡◌, ◌∙◌, refl, sym, subst, ap}
use Rattle.command_answers.specs.Answers.{HasPut, extent_of}
use Rattle.command_answers.proofs.AnswerLemmas.{answered, memory_at_once}
use Rattle.command_answers.proofs.answer.put_report.Goals as goal

pub returns-in-Ok-clause-answer : goal.returns-in-Ok-clause-answer
returns-in-Ok-clause-answer g c = λ r status told.
    let text = rw c.in-Ok.is at told in
    let old = (g.K.Sink.state c.args.out.now).taken in
    let new = (g.K.Sink.state c.put_last.new.out).taken in
    let line = subst (λ l. HasPut l c.args.status c.put_last.result old new) (c.as_str.ensures.value ∙ text) c.put_last.ensures.put in
    let put = subst (λ s. HasPut r.text s c.put_last.result old new) (sym status) line in
    answered (λ x. x ≡ r) ⊥ r c.put_last.result old new refl (ap extent_of status ∙ c.requires.extent) put

pub returns-in-Err-clause-answer : goal.returns-in-Err-clause-answer
returns-in-Err-clause-answer g c = λ r status text.
    memory_at_once (λ x. x ≡ r) ⊥ c.put_last-in-Err.result _ _ c.put_last-in-Err.ensures.put
