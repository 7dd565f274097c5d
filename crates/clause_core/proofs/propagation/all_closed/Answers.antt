use Rattle.std.proofs.Common.{◌≡◌, arith, refl}
use Rattle.clause_core.specs.Steps.{clause_status}
use Rattle.clause_core.specs.declared.status.Status.TheVariants.{Neither}
use Rattle.clause_core.proofs.ClosedLists.{IsClosed-more, IsClosed-all}
use Rattle.clause_core.proofs.propagation.all_closed.Goals as goal

pub loop-clause-preserved : goal.loop-clause-preserved
loop-clause-preserved c =
    let status : clause_status c.args.values.now c.clause-item.result ≡ Neither = cc c.in-Neither.ensures.status in
    IsClosed-more c.args.held.now c.args.values.now c.loop-clause.clause-index c.clause-item.result (omega arith) c.clause-item.is c.loop-clause.invariant status

pub returns : goal.returns
returns c = (λ _. IsClosed-all c.args.held.now c.args.values.now c.loop-clause.clause-index (omega arith) c.loop-clause.invariant, λ _. refl)
