use Rattle.std.proofs.Common.{◌∙◌, subst, arith}
use Rattle.std.proofs.lemmas.List.{get_or_default}
use Rattle.watched_propagation.specs.Watching.{clause_in, Meets}
use Rattle.watched_propagation.proofs.closed.are_satisfied.Goals as goal

pub returns : goal.returns
returns c = λ _ k m.
    let lt = m.1 in
    subst (λ z. Meets (clause_in c.args.arena.now z) c.args.trail.now.literals) (get_or_default c.args.places.now m.0 0 k m.1 ∙ m.2) (c.loop-place.invariant m.0 (omega arith))
