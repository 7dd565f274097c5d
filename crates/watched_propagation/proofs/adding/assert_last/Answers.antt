use Rattle.std.proofs.Common.{◌≡◌, ◌-◌, length, take, ◌∙◌, ap, inr, arith}
use Rattle.std.proofs.lemmas.Grind.{common_steps}
use Rattle.watched_propagation.specs.Watching.{clause_in}
use Rattle.watched_propagation.proofs.Growth.{go_on_trail, take_loose, done_bottom}
use Rattle.watched_propagation.proofs.adding.assert_last.Goals as goal

pub returns-in_err-assume-clause-kept : goal.returns-in_err-assume-clause-kept
returns-in_err-assume-clause-kept c = λ pairs lists h. go_on_trail c.args.arena.now pairs lists c.args.trail.now c.assume.new.trail c.args.loose.now.items c.assume.ensures.kept c.assume.ensures.lasting c.assume.ensures.size h

pub returns-else-is_true-clause-kept : goal.returns-else-is_true-clause-kept
returns-else-is_true-clause-kept c = λ pairs lists h. go_on_trail c.args.arena.now pairs lists c.args.trail.now c.assume.new.trail c.args.loose.now.items c.assume.ensures.kept c.assume.ensures.lasting c.assume.ensures.size h

pub returns-then-is_true-clause-kept : goal.returns-then-is_true-clause-kept
returns-then-is_true-clause-kept c = λ pairs lists h.
    let arena = c.args.arena.now in
    let s = c.assume.new.trail in
    let loose = c.args.loose.now.items in
    let size : c.args.loose.now.len ≡ length c.args.loose.now.items = grind (arith, common_steps) in
    let left : c.pop.new.self.items ≡ take (length c.args.loose.now.items - 1) c.args.loose.now.items = c.pop.ensures.rest ∙ ap (λ n. take (n - 1) c.args.loose.now.items) size in
    let done = done_bottom s (clause_in arena c.args.place) c.args.one (c.assume.ensures.grown.starts ∙ c.requires.bottom) c.requires.inside (c.is_true.ensures.on c.if-is_true.true) in
    let whole = go_on_trail arena pairs lists c.args.trail.now s loose c.assume.ensures.kept c.assume.ensures.lasting c.assume.ensures.size h in
    take_loose arena pairs lists s loose c.requires.last.0 c.pop.new.self.items c.args.place c.requires.last.1 left (inr done) whole
