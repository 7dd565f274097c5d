use Rattle.std.proofs.Common.{◌≡◌, Some, rules, subst}
use Rattle.outside.specs.States.{change}
use Rattle.command_line.specs.Asked.{Asked, read_as, check, explain, replay}
use Rattle.command_answers.specs.Ends.{Ends}
use Rattle.regver_top.specs.Asking.{asking, settled}
use Rattle.regver_top.proofs.top.answer_command.Goals as goal

pub returns-in-Check-clause-ends : goal.returns-in-Check-clause-ends
returns-in-Check-clause-ends g c =
    let words : check c.deref.result.now c.deref-in-Check.result.now c.deref-in-Check-2.result.now c.deref-in-Check-3.result.now ≡ read_as (Some c.args.command.now) = search rules in
    let k = change (g.S.Shelf.state c.args.shelf.now) (g.S.Shelf.state c.answer_check.new.shelf) in
    let P : Asked → Type 0 = λ x. Ends (asking (settled x)) c.answer_check.result k (g.K.Sink.state c.args.out.now) (g.K.Sink.state c.answer_check.new.out) in
    subst P words c.answer_check.ensures.ends

pub returns-in-Explain-clause-ends : goal.returns-in-Explain-clause-ends
returns-in-Explain-clause-ends g c =
    let words : explain c.deref-in-Explain.result.now c.deref-in-Explain-2.result.now c.deref-in-Explain-3.result.now c.deref-in-Explain-4.result.now ≡ read_as (Some c.args.command.now) = search rules in
    let k = change (g.S.Shelf.state c.args.shelf.now) (g.S.Shelf.state c.answer_explain.new.shelf) in
    let P : Asked → Type 0 = λ x. Ends (asking (settled x)) c.answer_explain.result k (g.K.Sink.state c.args.out.now) (g.K.Sink.state c.answer_explain.new.out) in
    subst P words c.answer_explain.ensures.ends

pub returns-in-Replay-clause-ends : goal.returns-in-Replay-clause-ends
returns-in-Replay-clause-ends g c =
    let words : replay c.deref-in-Replay.result.now c.deref-in-Replay-2.result.now c.deref-in-Replay-3.result.now c.deref-in-Replay-4.result.now ≡ read_as (Some c.args.command.now) = search rules in
    let k = change (g.S.Shelf.state c.args.shelf.now) (g.S.Shelf.state c.answer_replay.new.shelf) in
    let P : Asked → Type 0 = λ x. Ends (asking (settled x)) c.answer_replay.result k (g.K.Sink.state c.args.out.now) (g.K.Sink.state c.answer_replay.new.out) in
    subst P words c.answer_replay.ensures.ends
