use Rattle.std.proofs.Common.{refl}
use Rattle.clause_core.proofs.Extensions.{Extends-trans}
use Rattle.cdcl_core.proofs.noting.propagate_noting.Goals as goal

pub returns-in-Conflict-clause-derives : goal.returns-in-Conflict-clause-derives
returns-in-Conflict-clause-derives c = λ _. c.propagate_once_noting.ensures.derives c.args.values.now c.loop.invariant.leads cc

pub returns-in-Closed-clause-below : goal.returns-in-Closed-clause-below
returns-in-Closed-clause-below c = λ rho e u. c.propagate_once_noting.ensures.below rho (c.loop.invariant.below rho e u) u

pub loop-preserved : goal.loop-preserved
loop-preserved c = record {
  grows = Extends-trans c.propagate_once_noting.new.values c.loop.values c.args.values.now c.loop.invariant.grows c.propagate_once_noting.ensures.grows;
  below = λ rho e u. c.propagate_once_noting.ensures.below rho (c.loop.invariant.below rho e u) u;
  leads = c.in_ok-propagate_once_noting.ensures.leads c.args.values.now c.loop.invariant.leads (λ e. cc) refl;
}
