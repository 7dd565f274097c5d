use Rattle.std.proofs.Common.{subst}
use Rattle.outside.specs.States.{change}
use Rattle.command_answers.specs.Answers.{Answers}
use Rattle.command_answers.proofs.EndLemmas.{complete_of}
use Rattle.regver_top.specs.Asking.{asking, asked_in}
use Rattle.regver_top.proofs.Shown.{shown_of, saved_by}
use Rattle.regver_top.proofs.top.regver.Goals as goal

pub returns-clause-complete : goal.returns-clause-complete
returns-clause-complete g c =
    let k = change (g.S.Shelf.state c.args.shelf.now) (g.S.Shelf.state c.answer_words.new.shelf) in
    let ends = c.answer_words.ensures.ends in
    complete_of (asking (asked_in c.args.words.items)) c.answer_words.result k (g.K.Sink.state c.args.out.now) (g.K.Sink.state c.answer_words.new.out) ends.answer ends.write_fault

pub returns-clause-shown : goal.returns-clause-shown
returns-clause-shown g c = λ t told valid.
    let words = asked_in c.args.words.items in
    let k = change (g.S.Shelf.state c.args.shelf.now) (g.S.Shelf.state c.answer_words.new.shelf) in
    shown_of k words t _ _
    (subst (λ s. Answers ((asking words).Reports k t) ((asking words).ReadRose k) s (g.K.Sink.state c.args.out.now).taken (g.K.Sink.state c.answer_words.new.out).taken) valid (c.answer_words.ensures.ends.answer t told))

pub returns-clause-saved : goal.returns-clause-saved
returns-clause-saved g c = λ t told is.
    let words = asked_in c.args.words.items in
    let k = change (g.S.Shelf.state c.args.shelf.now) (g.S.Shelf.state c.answer_words.new.shelf) in
    saved_by k words t ((asking words).ReadRose k) c.answer_words.result _ _ is (c.answer_words.ensures.ends.answer t told)
