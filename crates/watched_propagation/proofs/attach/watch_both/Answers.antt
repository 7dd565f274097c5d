use Rattle.std.proofs.Common.{◌<◌, ◌++◌, ◌∷◌, [], length, nat_eq, subst, arith}
use Rattle.std.specs.List.{Contains}
use Rattle.std.proofs.lemmas.List.{length-set}
use Rattle.watched_propagation.specs.Watching.{clause_in, list_in}
use Rattle.watched_propagation.proofs.Lists.{watched, pushed, IsListed-new, IsListed-pushed}
use Rattle.watched_propagation.proofs.Settling.{IsWatching-pushed, IsWatching-both}
use Rattle.watched_propagation.proofs.attach.watch_both.Goals as goal

pub returns-in_err-push_watch-2-clause-watching : goal.returns-in_err-push_watch-2-clause-watching
returns-in_err-push_watch-2-clause-watching c =
    let a = c.args in
    let short = nat_eq (length c.codes-codes.result.now) 2 in
    let has_other : Contains (clause_in a.arena.now a.clause) a.other = subst (λ z. Contains z a.other) c.codes-codes.ensures (c.may_watch.ensures.other c.if-not-may_watch.false) in
    rw (c.in_err-push_watch-2.ensures.err, c.in_ok-push_watch.ensures.ok) (IsWatching-pushed a.arena.now a.pairs.now a.lists.now a.trail.now a.one (watched a.clause a.other short) has_other c.requires.watching)

pub returns-clause-watching : goal.returns-clause-watching
returns-clause-watching c =
    let a = c.args in
    let short = nat_eq (length c.codes-codes.result.now) 2 in
    let yes = c.if-not-may_watch.false in
    let has_one : Contains (clause_in a.arena.now a.clause) a.one = subst (λ z. Contains z a.one) c.codes-codes.ensures (c.may_watch.ensures.one yes) in
    let has_other : Contains (clause_in a.arena.now a.clause) a.other = subst (λ z. Contains z a.other) c.codes-codes.ensures (c.may_watch.ensures.other yes) in
    let one_in : a.one < length a.lists.now = c.may_watch.ensures.one_within yes in
    let other_in = c.may_watch.ensures.other_within yes in
    let first = pushed a.lists.now a.one (watched a.clause a.other short) in
    let size = length-set a.lists.now a.one (list_in a.lists.now a.one ++ watched a.clause a.other short ∷ []) in
    let both = pushed first a.other (watched a.clause a.one short) in
    rw (c.write.ensures, c.in_ok-push_watch-2.ensures.ok, c.in_ok-push_watch.ensures.ok)
    (IsWatching-both a.arena.now a.pairs.now both a.trail.now a.clause a.one a.other 0 has_one has_other
    (IsListed-pushed first a.other (watched a.clause a.one short) a.one a.clause (IsListed-new a.lists.now a.one (watched a.clause a.other short) one_in))
    (IsListed-new first a.other (watched a.clause a.one short) (omega arith))
    c.requires.one c.requires.other
    (IsWatching-pushed a.arena.now a.pairs.now first a.trail.now a.other (watched a.clause a.one short) has_one (IsWatching-pushed a.arena.now a.pairs.now a.lists.now a.trail.now a.one (watched a.clause a.other short) has_other c.requires.watching)))
