use Rattle.watched_propagation.proofs.Growth.{go_on_trail}
use Rattle.watched_propagation.proofs.propagator.Propagator.decide.Goals as goal

pub invariant_of-self : goal.invariant_of-self
invariant_of-self c =
    let p = c.self.inside in
    go_on_trail p.arena p.pairs.items p.lists.items p.trail c.decide.new.trail p.loose.items c.decide.ensures.kept c.decide.ensures.lasting c.decide.ensures.size c.self.invariant
