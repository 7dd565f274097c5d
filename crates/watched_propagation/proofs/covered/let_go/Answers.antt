use Rattle.std.proofs.Common.{subst, sym}
use Rattle.watched_propagation.specs.Propagations.{IsPropagator}
use Rattle.watched_propagation.proofs.Growth.{let_go}
use Rattle.watched_propagation.proofs.covered.let_go.Goals as goal

pub returns-then-is_covered : goal.returns-then-is_covered
returns-then-is_covered c =
    let a = c.args in
    subst (λ z. IsPropagator a.arena.now z a.lists.now a.trail.now a.loose.now) (sym c.write.ensures)
    (let_go a.arena.now a.pairs.now a.lists.now a.trail.now a.loose.now a.clause (c.is_covered.ensures c.if-is_covered.true) c.requires)
