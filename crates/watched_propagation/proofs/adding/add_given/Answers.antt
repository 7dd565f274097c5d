use Rattle.std.proofs.Common.{refl, subst}
use Rattle.std.specs.List.{Contains}
use Rattle.watched_propagation.proofs.Growth.{go_on_trail, watchable_bottom}
use Rattle.watched_propagation.proofs.adding.add_given.Goals as goal

pub returns-in_err-place-clause-propagator : goal.returns-in_err-place-clause-propagator
returns-in_err-place-clause-propagator c = c.store.ensures.kept c.args.lists.now c.args.trail.now c.requires.propagator

pub returns-in_default-clause-propagator : goal.returns-in_default-clause-propagator
returns-in_default-clause-propagator c =
    let s = c.store.new in
    go_on_trail s.arena s.pairs.items c.args.lists.now c.args.trail.now c.go_back.new.trail s.loose.items c.go_back.ensures.kept c.go_back.ensures.lasting c.go_back.ensures.size (c.store.ensures.kept c.args.lists.now c.args.trail.now c.requires.propagator)

pub watch_last-requires-clause-propagator : goal.watch_last-requires-clause-propagator
watch_last-requires-clause-propagator c =
    let s = c.store.new in
    go_on_trail s.arena s.pairs.items c.args.lists.now c.args.trail.now c.go_back.new.trail s.loose.items c.go_back.ensures.kept c.go_back.ensures.lasting c.go_back.ensures.size (c.store.ensures.kept c.args.lists.now c.args.trail.now c.requires.propagator)

pub watch_last-requires-clause-one : goal.watch_last-requires-clause-one
watch_last-requires-clause-one c = watchable_bottom c.go_back.new.trail _ _ (c.go_back.ensures.none refl) (λ m. absurd (c.in-Some.ensures.free m))

pub watch_last-requires-clause-other : goal.watch_last-requires-clause-other
watch_last-requires-clause-other c = watchable_bottom c.go_back.new.trail _ _ (c.go_back.ensures.none refl) (λ m. absurd (c.in-Some-find_other.ensures.free m))

pub assert_last-requires-clause-inside : goal.assert_last-requires-clause-inside
assert_last-requires-clause-inside c = subst (λ z. Contains z c.in-Some.one) c.codes-codes.ensures c.in-Some.ensures.inside

pub returns-in_err-assert_last-clause-propagator : goal.returns-in_err-assert_last-clause-propagator
returns-in_err-assert_last-clause-propagator c =
    let s = c.store.new in
    c.assert_last.ensures.kept s.pairs.items c.args.lists.now
    (go_on_trail s.arena s.pairs.items c.args.lists.now c.args.trail.now c.go_back.new.trail s.loose.items c.go_back.ensures.kept c.go_back.ensures.lasting c.go_back.ensures.size (c.store.ensures.kept c.args.lists.now c.args.trail.now c.requires.propagator))

pub returns-clause-propagator : goal.returns-clause-propagator
returns-clause-propagator c =
    let s = c.store.new in
    c.assert_last.ensures.kept s.pairs.items c.args.lists.now
    (go_on_trail s.arena s.pairs.items c.args.lists.now c.args.trail.now c.go_back.new.trail s.loose.items c.go_back.ensures.kept c.go_back.ensures.lasting c.go_back.ensures.size (c.store.ensures.kept c.args.lists.now c.args.trail.now c.requires.propagator))
