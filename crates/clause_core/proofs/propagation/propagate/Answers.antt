use Rattle.clause_core.proofs.Extensions.{Extends-trans}
use Rattle.clause_core.proofs.propagation.propagate.Goals as goal

pub loop-preserved : goal.loop-preserved
loop-preserved c = record {
  grows = Extends-trans c.propagate_once.new.values c.loop.values c.args.values.now c.loop.invariant.grows c.propagate_once.ensures.grows;
  below = λ rho e u. c.propagate_once.ensures.below rho (c.loop.invariant.below rho e u) u;
}
