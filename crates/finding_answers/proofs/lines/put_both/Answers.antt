use Rattle.std.proofs.Common.{◌≡◌, ◌++◌, [], refl, sym, ◌∙◌, ap, subst, append-nil}
use Rattle.command_answers.specs.Answers.{HasPut}
use Rattle.command_answers.proofs.AnswerLemmas.{put_behind, part_longer}
use Rattle.finding_answers.proofs.LineLemmas.{nil-test}
use Rattle.finding_answers.proofs.lines.put_both.Goals as goal

pub returns-then-is_empty-clause-put : goal.returns-then-is_empty-clause-put
returns-then-is_empty-clause-put g c =
    let line = c.args.line.now in
    let nil : c.args.behind.now ≡ [] = nil-test c.args.behind.now (sym c.is_empty.ensures ∙ c.if-is_empty.true) in
    subst (λ l. HasPut l c.args.status c.put_last.result (g.K.Sink.state c.args.out.now).taken (g.K.Sink.state c.put_last.new.out).taken)
    (sym (ap (λ b. line ++ b) nil ∙ append-nil line)) c.put_last.ensures.put

pub returns-in-Ok-clause-put : goal.returns-in-Ok-clause-put
returns-in-Ok-clause-put g c =
    put_behind c.args.line.now c.args.behind.now c.args.status c.put_last-in-Ok.result
    (g.K.Sink.state c.args.out.now).taken (g.K.Sink.state c.put_text.new.out).taken (g.K.Sink.state c.put_last-in-Ok.new.out).taken
    c.in-Ok.ensures.whole c.put_last-in-Ok.ensures.put

pub returns-in-Err-Fault-clause-put : goal.returns-in-Err-Fault-clause-put
returns-in-Err-Fault-clause-put g c = record {
  whole = λ w m. absurd (w refl);
  part = part_longer (g.K.Sink.state c.args.out.now).taken (g.K.Sink.state c.put_text.new.out).taken c.args.line.now c.args.behind.now c.in-Err-Fault.ensures.part;
}

pub returns-in-Err-Memory-clause-put : goal.returns-in-Err-Memory-clause-put
returns-in-Err-Memory-clause-put g c = record {
  whole = λ w m. absurd (m refl);
  part = part_longer (g.K.Sink.state c.args.out.now).taken (g.K.Sink.state c.put_text.new.out).taken c.args.line.now c.args.behind.now c.in-Err-Memory.ensures.part;
}
