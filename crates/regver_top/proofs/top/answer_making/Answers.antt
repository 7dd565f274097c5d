use Rattle.std.proofs.Common.{◌≡◌, ℕ, not, is_some, unwrap_or, Some, None, rules, sym, ap, subst}
use Rattle.outside.specs.States.{change}
use Rattle.command_line.specs.Asked.{Asked, gen}
use Rattle.command_line.specs.Counts.{count_of}
use Rattle.command_answers.specs.Ends.{Ends}
use Rattle.gen_command.specs.Reports.{asking_to_generate}
use Rattle.regver_top.specs.Asking.{number, asking}
use Rattle.regver_top.proofs.Settling.{settled_usage, settled_same, usage_ends}
use Rattle.regver_top.proofs.top.answer_making.Goals as goal

pub returns-in-Some-clause-ends : goal.returns-in-Some-clause-ends
returns-in-Some-clause-ends g c =
    let word = c.args.count.now in
    let is : count_of word ≡ Some c.in-Some.count = search rules in
    let number_is : number word ≡ c.in-Some.count = ap (λ o. unwrap_or o 0) is in
    let k = change (g.S.Shelf.state c.args.shelf.now) (g.S.Shelf.state c.answer_gen.new.shelf) in
    let P : Asked → Type 0 = λ x. Ends (asking x) c.answer_gen.result k (g.K.Sink.state c.args.out.now) (g.K.Sink.state c.answer_gen.new.out) in
    let Q : ℕ → Type 0 = λ n. Ends (asking_to_generate n) c.answer_gen.result k (g.K.Sink.state c.args.out.now) (g.K.Sink.state c.answer_gen.new.out) in
    subst P (sym (settled_same (gen word) (ap (λ o. not (is_some o)) is))) (subst Q (sym number_is) c.answer_gen.ensures.ends)

pub returns-in-None-clause-ends : goal.returns-in-None-clause-ends
returns-in-None-clause-ends g c =
    let word = c.args.count.now in
    let is : count_of word ≡ None = search rules in
    let shelf = g.S.Shelf.state c.args.shelf.now in
    let P : Asked → Type 0 = λ x. Ends (asking x) c.put_last.result (change shelf shelf) (g.K.Sink.state c.args.out.now) (g.K.Sink.state c.put_last.new.out) in
    subst P (sym (settled_usage (gen word) (ap (λ o. not (is_some o)) is)))
    (usage_ends c.put_last.result shelf _ _ c.put_last.ensures.later c.put_last.ensures.put c.put_last.ensures.ends c.put_last.ensures.cause)
