use Rattle.std.proofs.Common.{◌≡◌, ◌<◌, ◌+◌, ◌++◌, length, get_or, sym, ◌∙◌, ap, subst, arith}
use Rattle.std.specs.List.{Contains}
use Rattle.std.proofs.lemmas.List.{get_or_append_left, length-append}
use Rattle.std.proofs.lemmas.Option.{get_or_from_slice_get, slice_get_within}
use Rattle.propagation_trail.specs.Codes.{negated}
use Rattle.watched_propagation.specs.Watching.{pair_in, IsWatch}
use Rattle.propagation_trail.proofs.Signs.{negated-negated}
use Rattle.watched_propagation.proofs.Settling.{IsWatching-advance}
use Rattle.watched_propagation.proofs.Lasting.{KeepsLasting-grown, KeepsLasting-head}
use Rattle.watched_propagation.proofs.Turns.{visited_unless}
use Rattle.watched_propagation.proofs.visit.propagate_next.Goals as goal

pub visit-requires-clause-falsified : goal.visit-requires-clause-falsified
visit-requires-clause-falsified c =
    let t = c.args.trail.now in
    let code = c.args.code in
    let on : Contains t.literals code = (t.head, slice_get_within t.literals t.head code c.requires.next, get_or_from_slice_get t.literals t.head code code c.requires.next) in
    subst (Contains t.literals) (sym (ap negated c.negated.ensures ∙ negated-negated code)) on

pub advance-requires : goal.advance-requires
advance-requires c =
    let t = c.args.trail.now in
    let g = c.visit.ensures.grown in
    let lt = slice_get_within t.literals t.head c.args.code c.requires.next in
    let size = ap length g.literals ∙ length-append t.literals g.more in
    let head = g.head in
    omega arith

pub returns-then-is_none-clause-watching : goal.returns-then-is_none-clause-watching
returns-then-is_none-clause-watching c =
    let t = c.args.trail.now in
    let s = c.visit.new.trail in
    let code = c.args.code in
    let arena = c.args.arena.now in
    let g = c.visit.ensures.grown in
    let lt = slice_get_within t.literals t.head code c.requires.next in
    let size = ap length g.literals ∙ length-append t.literals g.more in
    let head = g.head in
    let less : s.head < length s.literals = omega arith in
    let here : get_or s.literals s.head 0 ≡ code = ap (λ z. get_or z s.head 0) g.literals ∙ ap (λ n. get_or (t.literals ++ g.more) n 0) head ∙ get_or_append_left t.literals g.more 0 t.head lt ∙ get_or_from_slice_get t.literals t.head code 0 c.requires.next in
    let none = c.if-is_none.ensures in
    let visited = visited_unless arena c.visit.new.pairs s.literals c.negated.result c.in_ok-conflict.conflict none c.in_ok-conflict.ensures.visited in
    IsWatching-advance arena c.visit.new.pairs c.visit.new.lists s c.advance.new.self code c.advance.ensures less here
    (λ k i. visited.each k (subst (IsWatch (pair_in c.visit.new.pairs k)) (sym c.negated.ensures) i)) c.visit.ensures.watching

pub returns-in_err-conflict-clause-lasting : goal.returns-in_err-conflict-clause-lasting
returns-in_err-conflict-clause-lasting c = KeepsLasting-grown c.args.trail.now c.visit.new.trail c.visit.ensures.grown

pub returns-else-is_none-clause-lasting : goal.returns-else-is_none-clause-lasting
returns-else-is_none-clause-lasting c = KeepsLasting-grown c.args.trail.now c.visit.new.trail c.visit.ensures.grown

pub returns-then-is_none-clause-lasting : goal.returns-then-is_none-clause-lasting
returns-then-is_none-clause-lasting c = λ x h.
    let s = c.visit.new.trail in
    KeepsLasting-head s c.advance.new.self (s.head + 1) c.advance.ensures x (KeepsLasting-grown c.args.trail.now s c.visit.ensures.grown x h)
