use Rattle.std.proofs.Common.{◌≡◌, sym, ◌∙◌, ap, arith, subst, take, ◌+◌, ◌<◌, ◌≤◌, ◌++◌, ◌∷◌, []}
use Rattle.std.proofs.lemmas.Bool.{false≢true}
use Rattle.clause_core.specs.Values.{put_true}
use Rattle.clause_core.specs.Steps.{clause_status}
use Rattle.clause_core.specs.Propagation.{IsClosed, Extends, open_count}
use Rattle.clause_core.specs.declared.status.Status.TheVariants.{Falsified, Unit as UnitLiteral, Neither}
use Rattle.clause_core.proofs.ClosedLists.{IsClosed-more, IsClosed-all, unforced-at, Extends-by_status}
use Rattle.clause_core.proofs.Extensions.{open_count-unit, Extends-by_unit, Extends-trans, value-unit}
use Rattle.cdcl_core.specs.Noting.{Leads}
use Rattle.cdcl_core.proofs.Noted.{Leads-unit, Derives-conflict}
use Rattle.cdcl_core.proofs.noting.propagate_once_noting.Goals as goal
use Rattle.cdcl_core.proofs.noting.propagate_once_noting.Goals.{in-Unit+in_ok-push-in-Unit, in-Neither}

pub returns-in-Falsified-clause-derives : goal.returns-in-Falsified-clause-derives
returns-in-Falsified-clause-derives c = λ start h _.
    let i = c.loop-index in
    let item = c.index-held-index.result in
    let seen : clause_status i.values item ≡ Falsified = cc c.in-Falsified.ensures.status in
    Derives-conflict c.args.held.now start i.values i.hints c.push.new.self i.index item (omega arith) c.index-held-index.is seen (i.invariant.leads start h) c.in_ok-push-in-Falsified.ensures.ok

pub loop-index-preserved : goal.loop-index-preserved
loop-index-preserved c =
    let i = c.loop-index in
    let held = c.args.held.now in
    let item = c.index-held-index.result in
    elim c.match-clause_status.branch [
      | in-Unit+in_ok-push-in-Unit w ↦
          let l = w.in-Unit.literal in
          let seen : clause_status i.values item ≡ UnitLiteral l = cc w.in-Unit.ensures.status in
          let wrote : c.match-clause_status.values ≡ put_true i.values l = cc w.put_true.ensures in
          let pushed : c.match-clause_status.hints ≡ i.hints ++ (i.index + 1) ∷ [] = cc w.in_ok-push-in-Unit.ensures.ok in
          let fell : open_count (put_true i.values l) + 1 ≡ open_count i.values = open_count-unit i.values l w.in-Unit.ensures.unit (value-unit i.values item l seen) in
          record {
            fewer = λ _. omega (arith, ap open_count wrote);
            falls = omega (arith, ap open_count wrote);
            closed = λ no. absurd (false≢true (sym no ∙ w.changed-is));
            grows = subst (λ z. Extends z c.args.values.now) (sym wrote) (Extends-trans (put_true i.values l) i.values c.args.values.now i.invariant.grows (Extends-by_unit i.values l (value-unit i.values item l seen)));
            below = λ rho e u. subst (λ z. Extends rho z) (sym wrote) (Extends-by_status rho i.values item l (i.invariant.below rho e u) (unforced-at held rho i.index item (omega arith) c.index-held-index.is u) seen);
            leads = λ start h. subst (λ z. Leads held start z c.match-clause_status.hints) (sym wrote) (subst (λ z. Leads held start (put_true i.values l) z) (sym pushed) (Leads-unit held start i.values i.hints i.index item l (omega arith) c.index-held-index.is seen (i.invariant.leads start h)));
          }
      | in-Neither w ↦
          let seen : clause_status i.values item ≡ Neither = cc w.in-Neither.ensures.status in
          record {
            fewer = λ yes. subst (λ z. open_count z < open_count c.args.values.now) (sym w.values-is) (i.invariant.fewer (sym w.changed-is ∙ yes));
            falls = subst (λ z. open_count z ≤ open_count c.args.values.now) (sym w.values-is) i.invariant.falls;
            closed = λ no. subst (λ z. IsClosed (take (i.index + 1) held) z) (sym w.values-is) (IsClosed-more held i.values i.index item (omega arith) c.index-held-index.is (i.invariant.closed (sym w.changed-is ∙ no)) seen);
            grows = subst (λ z. Extends z c.args.values.now) (sym w.values-is) i.invariant.grows;
            below = λ rho e u. subst (λ z. Extends rho z) (sym w.values-is) (i.invariant.below rho e u);
            leads = λ start h. subst (λ z. Leads held start z c.match-clause_status.hints) (sym w.values-is) (subst (λ z. Leads held start i.values z) (sym w.hints-is) (i.invariant.leads start h));
          }
    ]

pub returns-else-changed-clause-closed : goal.returns-else-changed-clause-closed
returns-else-changed-clause-closed c = λ _. IsClosed-all c.args.held.now c.loop-index.values c.loop-index.index (omega arith) (c.loop-index.invariant.closed c.if-changed.false)
