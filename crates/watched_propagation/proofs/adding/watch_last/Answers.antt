use Rattle.std.proofs.Common.{◌≡◌, ◌≤◌, ◌-◌, ◌++◌, length, take, drop, refl, sym, ◌∙◌, ap, subst, inl, arith}
use Rattle.std.proofs.lemmas.Grind.{common_steps}
use Rattle.watched_propagation.specs.Propagations.{IsPropagator}
use Rattle.watched_propagation.specs.Watching.{KeepsWatched}
use Rattle.watched_propagation.proofs.Growth.{go_on, take_loose}
use Rattle.watched_propagation.proofs.adding.watch_last.Goals as goal

pub returns-else-branch : goal.returns-else-branch
returns-else-branch c =
    let a = c.args in
    let others = c.watch_both.new.pairs in
    let back : take a.pairs.now.len (others ++ drop (length others) a.pairs.now.items) ≡ others = grind (arith, common_steps) in
    let kept : KeepsWatched a.pairs.now.items others = subst (λ z. KeepsWatched z others) c.as_mut_slice.ensures.value c.watch_both.ensures.kept in
    let many : length a.pairs.now.items ≤ length others = grind (arith, common_steps) in
    subst (λ z. IsPropagator a.arena.now z c.watch_both.new.lists a.trail.now a.loose.now.items) (sym back)
    (go_on a.arena.now a.pairs.now.items others a.lists.now c.watch_both.new.lists a.trail.now a.trail.now a.loose.now.items c.watch_both.ensures.watching kept many (λ _ h. h) refl c.requires.propagator)

pub returns-then-branch : goal.returns-then-branch
returns-then-branch c =
    let a = c.args in
    let others = c.watch_both.new.pairs in
    let back : take a.pairs.now.len (others ++ drop (length others) a.pairs.now.items) ≡ others = grind (arith, common_steps) in
    let kept : KeepsWatched a.pairs.now.items others = subst (λ z. KeepsWatched z others) c.as_mut_slice.ensures.value c.watch_both.ensures.kept in
    let many : length a.pairs.now.items ≤ length others = grind (arith, common_steps) in
    let size : c.args.loose.now.len ≡ length c.args.loose.now.items = grind (arith, common_steps) in
    let left : c.pop.new.self.items ≡ take (length c.args.loose.now.items - 1) c.args.loose.now.items = c.pop.ensures.rest ∙ ap (λ n. take (n - 1) c.args.loose.now.items) size in
    let whole = go_on a.arena.now a.pairs.now.items others a.lists.now c.watch_both.new.lists a.trail.now a.trail.now a.loose.now.items c.watch_both.ensures.watching kept many (λ _ h. h) refl c.requires.propagator in
    subst (λ z. IsPropagator a.arena.now z c.watch_both.new.lists a.trail.now c.pop.new.self.items) (sym back)
    (take_loose a.arena.now others c.watch_both.new.lists a.trail.now a.loose.now.items c.requires.last.0 c.pop.new.self.items a.place c.requires.last.1 left (inl (c.in_ok-watch_both.ensures.watched c.if-branch.true)) whole)
