use Rattle.std.proofs.Common.{◌≡◌, ◌∙◌, true, false, rules, sym, subst}
use Rattle.outside.specs.States.{change}
use Rattle.command_line.specs.Asked.{Asked, asked_of, words_of, verify}
use Rattle.command_line.specs.Subcommands.{verifies}
use Rattle.command_answers.specs.Ends.{Ends}
use Rattle.regver_top.specs.Asking.{is_refused, asking}
use Rattle.regver_top.proofs.Settling.{settled_usage, settled_same, usage_ends}
use Rattle.regver_top.proofs.top.answer_saving.Goals as goal

pub returns-then-repeats-clause-ends : goal.returns-then-repeats-clause-ends
returns-then-repeats-clause-ends g c =
    let a = asked_of verifies (words_of c.args.words.now) in
    let is : is_refused a ≡ true = search rules in
    let shelf = g.S.Shelf.state c.args.shelf.now in
    let P : Asked → Type 0 = λ x. Ends (asking x) c.put_last.result (change shelf shelf) (g.K.Sink.state c.args.out.now) (g.K.Sink.state c.put_last.new.out) in
    subst P (sym (settled_usage a is)) (usage_ends c.put_last.result shelf _ _ c.put_last.ensures.later c.put_last.ensures.put c.put_last.ensures.ends c.put_last.ensures.cause)

pub returns-clause-ends : goal.returns-clause-ends
returns-clause-ends g c =
    let a = asked_of verifies (words_of c.args.words.now) in
    let is : is_refused a ≡ false = search rules in
    let words : verify c.deref.result.now c.deref-2.result.now c.deref-3.result.now c.deref-4.result.now ≡ a = search rules in
    let k = change (g.S.Shelf.state c.args.shelf.now) (g.S.Shelf.state c.answer_verify.new.shelf) in
    let P : Asked → Type 0 = λ x. Ends (asking x) c.answer_verify.result k (g.K.Sink.state c.args.out.now) (g.K.Sink.state c.answer_verify.new.out) in
    subst P (words ∙ sym (settled_same a is)) c.answer_verify.ensures.ends
