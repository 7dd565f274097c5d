use Rattle.std.proofs.Common.{◌≡◌, sym, ◌∙◌, ap, arith, subst, take, ◌+◌, ◌<◌, ◌≤◌}
use Rattle.std.proofs.lemmas.Bool.{false≢true}
use Rattle.clause_core.specs.Steps.{clause_status}
use Rattle.clause_core.specs.Propagation.{IsClosed, Extends, open_count}
use Rattle.clause_core.specs.Values.{put_true}
use Rattle.clause_core.specs.declared.status.Status.TheVariants.{Falsified, Unit as UnitLiteral, Neither}
use Rattle.clause_core.proofs.ClosedLists.{IsClosed-more, IsClosed-all, unforced-at, Extends-by_status, no_conflict}
use Rattle.clause_core.proofs.Extensions.{open_count-unit, Extends-by_unit, Extends-trans, value-unit}
use Rattle.clause_core.proofs.propagation.propagate_once.Goals as goal
use Rattle.clause_core.proofs.propagation.propagate_once.Goals.{in-Unit, in-Neither}

pub returns-in-Falsified-clause-conflict : goal.returns-in-Falsified-clause-conflict
returns-in-Falsified-clause-conflict c = λ rho e u _.
    let i = c.loop-clause in
    let status : clause_status i.values c.clause-item.result ≡ Falsified = cc c.in-Falsified.ensures.status in
    no_conflict rho i.values c.clause-item.result (i.invariant.below rho e u) (unforced-at c.args.held.now rho i.clause-index c.clause-item.result (omega arith) c.clause-item.is u) status

pub loop-clause-preserved : goal.loop-clause-preserved
loop-clause-preserved c =
    let i = c.loop-clause in
    let held = c.args.held.now in
    let item = c.clause-item.result in
    elim c.match-clause_status.branch [
      | in-Unit w ↦
          let l = w.in-Unit.literal in
          let status : clause_status i.values item ≡ UnitLiteral l = cc w.in-Unit.ensures.status in
          let wrote : c.match-clause_status.values ≡ put_true i.values l = cc w.put_true.ensures in
          let fell : open_count (put_true i.values l) + 1 ≡ open_count i.values = open_count-unit i.values l w.in-Unit.ensures.unit (value-unit i.values item l status) in
          record {
            fewer = λ _. omega (arith, ap open_count wrote);
            falls = omega (arith, ap open_count wrote);
            closed = λ no. absurd (false≢true (sym no ∙ w.changed-is));
            grows = subst (λ z. Extends z c.args.values.now) (sym wrote) (Extends-trans (put_true i.values l) i.values c.args.values.now i.invariant.grows (Extends-by_unit i.values l (value-unit i.values item l status)));
            below = λ rho e u. subst (λ z. Extends rho z) (sym wrote) (Extends-by_status rho i.values item l (i.invariant.below rho e u) (unforced-at held rho i.clause-index item (omega arith) c.clause-item.is u) status);
          }
      | in-Neither w ↦
          let status : clause_status i.values item ≡ Neither = cc w.in-Neither.ensures.status in
          record {
            fewer = λ yes. subst (λ z. open_count z < open_count c.args.values.now) (sym w.values-is) (i.invariant.fewer (sym w.changed-is ∙ yes));
            falls = subst (λ z. open_count z ≤ open_count c.args.values.now) (sym w.values-is) i.invariant.falls;
            closed = λ no. subst (λ z. IsClosed (take (i.clause-index + 1) held) z) (sym w.values-is) (IsClosed-more held i.values i.clause-index item (omega arith) c.clause-item.is (i.invariant.closed (sym w.changed-is ∙ no)) status);
            grows = subst (λ z. Extends z c.args.values.now) (sym w.values-is) i.invariant.grows;
            below = λ rho e u. subst (λ z. Extends rho z) (sym w.values-is) (i.invariant.below rho e u);
          }
    ]

pub returns-else-changed-clause-closed : goal.returns-else-changed-clause-closed
returns-else-changed-clause-closed c = λ _. IsClosed-all c.args.held.now c.loop-clause.values c.loop-clause.clause-index (omega arith) (c.loop-clause.invariant.closed c.if-changed.false)
