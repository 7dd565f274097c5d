use Rattle.watched_propagation.proofs.Growth.{go_on_trail}
use Rattle.watched_propagation.proofs.propagator.Propagator.go_back.Goals as goal

pub invariant_of-self : goal.invariant_of-self
invariant_of-self c =
    let p = c.self.inside in
    go_on_trail p.arena p.pairs.items p.lists.items p.trail c.go_back.new.trail p.loose.items c.go_back.ensures.kept c.go_back.ensures.lasting c.go_back.ensures.size c.self.invariant
