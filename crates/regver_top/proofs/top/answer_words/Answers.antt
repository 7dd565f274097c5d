use Rattle.std.proofs.Common.{◌≡◌, map, string_bytes, Some, subst}
use Rattle.outside.specs.States.{change}
use Rattle.command_line.specs.Asked.{Asked, asked, read_as, usage}
use Rattle.command_answers.specs.Ends.{Ends}
use Rattle.regver_top.specs.Asking.{asking, asked_in, settled}
use Rattle.regver_top.proofs.Settling.{usage_ends, memory_ends}
use Rattle.regver_top.proofs.top.answer_words.Goals as goal

pub returns-in-Ok-None-clause-ends : goal.returns-in-Ok-None-clause-ends
returns-in-Ok-None-clause-ends g c =
    let words : usage ≡ asked (map string_bytes c.args.words.items) = rw c.in-Ok-None.field-0-is at c.in-Ok-None.ensures.asked in
    let shelf = g.S.Shelf.state c.args.shelf.now in
    let P : Asked → Type 0 = λ x. Ends (asking (settled x)) c.put_last.result (change shelf shelf) (g.K.Sink.state c.args.out.now) (g.K.Sink.state c.put_last.new.out) in
    subst P words (usage_ends c.put_last.result shelf _ _ c.put_last.ensures.later c.put_last.ensures.put c.put_last.ensures.ends c.put_last.ensures.cause)

pub returns-in-Ok-Some-clause-ends : goal.returns-in-Ok-Some-clause-ends
returns-in-Ok-Some-clause-ends g c =
    let words : read_as (Some c.in-Ok-Some.command) ≡ asked (map string_bytes c.args.words.items) = rw c.in-Ok-Some.field-0-is at c.in-Ok-Some.ensures.asked in
    let k = change (g.S.Shelf.state c.args.shelf.now) (g.S.Shelf.state c.answer_command.new.shelf) in
    let P : Asked → Type 0 = λ x. Ends (asking (settled x)) c.answer_command.result k (g.K.Sink.state c.args.out.now) (g.K.Sink.state c.answer_command.new.out) in
    subst P words c.answer_command.ensures.ends

pub returns-in-Err-clause-ends : goal.returns-in-Err-clause-ends
returns-in-Err-clause-ends g c =
    memory_ends c.put_last-in-Err.result (g.S.Shelf.state c.args.shelf.now) _ _ c.put_last-in-Err.ensures.later (asked_in c.args.words.items) c.put_last-in-Err.ensures.put c.put_last-in-Err.ensures.ends c.put_last-in-Err.ensures.cause
