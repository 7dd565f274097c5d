use Rattle.watched_propagation.proofs.Growth.{go_on_trail, watchable_learned}
use Rattle.watched_propagation.proofs.adding.add_watched.Goals as goal

pub returns-in_err-place-clause-propagator : goal.returns-in_err-place-clause-propagator
returns-in_err-place-clause-propagator c = c.store.ensures.kept c.args.lists.now c.args.trail.now c.requires.propagator

pub watch_last-requires-clause-propagator : goal.watch_last-requires-clause-propagator
watch_last-requires-clause-propagator c =
    let s = c.store.new in
    go_on_trail s.arena s.pairs.items c.args.lists.now c.args.trail.now c.assume.new.trail s.loose.items c.assume.ensures.kept c.assume.ensures.lasting c.assume.ensures.size (c.store.ensures.kept c.args.lists.now c.args.trail.now c.requires.propagator)

pub returns-in_err-was_open-clause-propagator : goal.returns-in_err-was_open-clause-propagator
returns-in_err-was_open-clause-propagator c =
    let s = c.store.new in
    go_on_trail s.arena s.pairs.items c.args.lists.now c.args.trail.now c.assume.new.trail s.loose.items c.assume.ensures.kept c.assume.ensures.lasting c.assume.ensures.size (c.store.ensures.kept c.args.lists.now c.args.trail.now c.requires.propagator)

pub returns-then-not-was_open-clause-propagator : goal.returns-then-not-was_open-clause-propagator
returns-then-not-was_open-clause-propagator c =
    let s = c.store.new in
    go_on_trail s.arena s.pairs.items c.args.lists.now c.args.trail.now c.assume.new.trail s.loose.items c.assume.ensures.kept c.assume.ensures.lasting c.assume.ensures.size (c.store.ensures.kept c.args.lists.now c.args.trail.now c.requires.propagator)

pub watch_last-requires-clause-one : goal.watch_last-requires-clause-one
watch_last-requires-clause-one c = (watchable_learned c.args.trail.now c.assume.new.trail c.args.one c.args.other c.requires.learnable (c.in_ok-was_open.ensures.assigned c.if-not-was_open.false)).0

pub watch_last-requires-clause-other : goal.watch_last-requires-clause-other
watch_last-requires-clause-other c = (watchable_learned c.args.trail.now c.assume.new.trail c.args.one c.args.other c.requires.learnable (c.in_ok-was_open.ensures.assigned c.if-not-was_open.false)).1
