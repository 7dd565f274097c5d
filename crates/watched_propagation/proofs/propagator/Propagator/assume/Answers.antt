use Rattle.watched_propagation.proofs.Growth.{go_on_trail}
use Rattle.watched_propagation.proofs.propagator.Propagator.assume.Goals as goal

pub invariant_of-self : goal.invariant_of-self
invariant_of-self c =
    let p = c.self.inside in
    go_on_trail p.arena p.pairs.items p.lists.items p.trail c.assume.new.trail p.loose.items c.assume.ensures.kept c.assume.ensures.lasting c.assume.ensures.size c.self.invariant
