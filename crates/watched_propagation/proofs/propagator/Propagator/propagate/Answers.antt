use Rattle.std.proofs.Common.{◌≡◌, ◌≤◌, ◌++◌, length, take, drop, sym, subst, arith}
use Rattle.std.proofs.lemmas.Grind.{common_steps}
use Rattle.watched_propagation.specs.Propagations.{IsPropagator}
use Rattle.watched_propagation.specs.Watching.{KeepsWatched}
use Rattle.watched_propagation.proofs.Growth.{go_on}
use Rattle.watched_propagation.proofs.propagator.Propagator.propagate.Goals as goal

pub invariant_of-self : goal.invariant_of-self
invariant_of-self c =
    let p = c.self.inside in
    let others = c.propagate.new.pairs in
    let next = c.propagate.new.lists in
    let pairs_back : take p.pairs.len (others ++ drop (length others) p.pairs.items) ≡ others = grind (arith, common_steps) in
    let lists_back : take p.lists.len (next ++ drop (length next) p.lists.items) ≡ next = grind (arith, common_steps) in
    let kept : KeepsWatched p.pairs.items others = subst (λ z. KeepsWatched z others) c.as_mut_slice.ensures.value c.propagate.ensures.kept in
    let many : length p.pairs.items ≤ length others = grind (arith, common_steps) in
    subst (λ z. IsPropagator p.arena z (take p.lists.len (next ++ drop (length next) p.lists.items)) c.propagate.new.trail p.loose.items) (sym pairs_back)
    (subst (λ z. IsPropagator p.arena others z c.propagate.new.trail p.loose.items) (sym lists_back)
    (go_on p.arena p.pairs.items others p.lists.items next p.trail c.propagate.new.trail p.loose.items c.propagate.ensures.watching kept many c.propagate.ensures.lasting c.propagate.ensures.size c.self.invariant))

pub invariant_of-self-2 : goal.invariant_of-self-2
invariant_of-self-2 c =
    let p = c.self.inside in
    let others = c.propagate.new.pairs in
    let next = c.propagate.new.lists in
    let pairs_back : take p.pairs.len (others ++ drop (length others) p.pairs.items) ≡ others = grind (arith, common_steps) in
    let lists_back : take p.lists.len (next ++ drop (length next) p.lists.items) ≡ next = grind (arith, common_steps) in
    let kept : KeepsWatched p.pairs.items others = subst (λ z. KeepsWatched z others) c.as_mut_slice.ensures.value c.propagate.ensures.kept in
    let many : length p.pairs.items ≤ length others = grind (arith, common_steps) in
    subst (λ z. IsPropagator p.arena z (take p.lists.len (next ++ drop (length next) p.lists.items)) c.propagate.new.trail p.loose.items) (sym pairs_back)
    (subst (λ z. IsPropagator p.arena others z c.propagate.new.trail p.loose.items) (sym lists_back)
    (go_on p.arena p.pairs.items others p.lists.items next p.trail c.propagate.new.trail p.loose.items c.propagate.ensures.watching kept many c.propagate.ensures.lasting c.propagate.ensures.size c.self.invariant))
