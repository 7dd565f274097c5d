use Rattle.std.proofs.Common.{◌≡◌, ◌∙◌, ◌++◌, ℕ, List, string_bytes, refl, sym, subst, ap, ap₂}
use Rattle.command_answers.specs.Answers.{HasPut, extent_of}
use Rattle.command_answers.proofs.AnswerLemmas.{answered}
use Rattle.finding_answers.proofs.lines.put_lines.Goals as goal

pub returns-clause-answer : goal.returns-clause-answer
returns-clause-answer g c = λ r first second status text told told_behind.
    let old = (g.K.Sink.state c.args.out.now).taken in
    let new = (g.K.Sink.state c.put_both.new.out).taken in
    let one : string_bytes c.in-Ok-Ok.line ≡ first = rw c.in-Ok-Ok.is-0 at told in
    let other : string_bytes c.in-Ok-Ok.behind ≡ second = rw c.in-Ok-Ok.is-1 at told_behind in
    let both = ap₂ (λ (x y : List ℕ). x ++ y) (c.as_str.ensures.value ∙ one) (c.as_str-2.ensures.value ∙ other) ∙ sym text in
    let lines = subst (λ l. HasPut l c.args.status c.put_both.result old new) both c.put_both.ensures.put in
    let put = subst (λ s. HasPut r.text s c.put_both.result old new) (sym status) lines in
    answered (λ x. x ≡ r) ⊥ r c.put_both.result old new refl (ap extent_of status ∙ c.requires.extent) put
