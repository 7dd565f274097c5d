use Rattle.std.proofs.Common.{◌≡◌, ⊎_elim, subst, arith}
use Rattle.std.specs.List.{Contains}
use Rattle.std.proofs.lemmas.Bool.{cases_lt}
use Rattle.watched_propagation.specs.Watching.{watch_in}
use Rattle.watched_propagation.proofs.visit.next_place.Goals as goal

pub loop-place-preserved : goal.loop-place-preserved
loop-place-preserved c =
    let p = c.loop-place.place in
    let i = c.loop-place.invariant in
    record {
      start = omega arith;
      passed = λ k le lt. ⊎_elim
          (λ less. i.passed k le less)
          (λ ge. let same : p ≡ k = omega arith in subst (λ z. Contains c.args.trail.now.literals (watch_in c.args.list.now z).blocker) same (c.is_true.ensures.on c.if-not-is_true.false))
          (cases_lt k p);
    }
