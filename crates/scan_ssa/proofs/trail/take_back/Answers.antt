use Rattle.std.proofs.Common.{◌≡◌, ◌++◌, ◌∷◌, [], ◌∙◌, ap, sym, arith}
use Rattle.scan_ssa.proofs.TrailLemmas.{pop_below, pop_front, pop_store, pop_changes}
use Rattle.scan_ssa.proofs.trail.take_back.Goals as goal

pub loop-trail-preserved-in-Some : goal.loop-trail-preserved-in-Some
loop-trail-preserved-in-Some c =
    let log = c.loop-trail.trail.log.items in
    let popped : log ≡ c.put.new.trail.log.items ++ c.in-Some.last ∷ [] = c.in-Some.ensures.items ∙ ap (λ v. v.items ++ c.in-Some.last ∷ []) (sym c.put.ensures.log) in
    let below = pop_below c.args.mark log c.put.new.trail.log.items c.in-Some.last popped (omega (arith, c.loop-trail-test.true)) in
    record {
      below = below;
      front = pop_front c.args.trail.now.log.items log c.put.new.trail.log.items c.in-Some.last popped c.loop-trail.invariant.front;
      store = pop_store c.args.mark log c.put.new.trail.log.items c.in-Some.last c.loop-trail.trail.store.items c.put.new.trail.store.items popped below c.put.ensures.store ∙ c.loop-trail.invariant.store;
      changes = pop_changes c.loop-trail.changes.items c.push.new.self.items c.in-Some.last c.held_at.result c.loop-trail.trail.store.items c.put.new.trail.store.items c.in_ok-push.ensures.items c.held_at.ensures c.put.ensures.store ∙ c.loop-trail.invariant.changes;
    }
