use Rattle.std.proofs.Common.{◌++◌, ◌∷◌, [], map, length, ◌<◌, arith}
use Rattle.std.proofs.lemmas.List.{length-append}
use Rattle.clause_core.specs.Clauses.{rank}
use Rattle.watched_propagation.specs.Watching.{no_pair}
use Rattle.watched_propagation.proofs.Growth.{add_loose, add_pair, add_clause}
use Rattle.watched_propagation.proofs.adding.store.Goals as goal

pub returns-in_err-push-3-clause-kept : goal.returns-in_err-push-3-clause-kept
returns-in_err-push-3-clause-kept c = λ lists t h.
    let arena = c.args.arena.now in
    let pairs = c.args.pairs.now.items in
    let loose = c.args.loose.now.items in
    rw (c.in_err-push-3.ensures.err, c.in_ok-push-2.ensures.items, c.in_ok-push.ensures.items) (add_pair arena pairs lists t (loose ++ c.len-place.result ∷ []) (add_loose arena pairs lists t loose c.len-place.result h))

pub returns-clause-kept : goal.returns-clause-kept
returns-clause-kept c = λ lists t h.
    let arena = c.args.arena.now in
    let pairs = c.args.pairs.now.items in
    let loose = c.args.loose.now.items in
    let size = length-append pairs (no_pair ∷ []) in
    let le = h.paired in
    let lt : length arena < length (pairs ++ no_pair ∷ []) = omega arith in
    rw (c.in_ok-push-3.ensures.ok, c.in_ok-push-2.ensures.items, c.in_ok-push.ensures.items, c.len-place.ensures)
    (add_clause arena (pairs ++ no_pair ∷ []) lists t loose (map rank c.args.literals.now) lt (add_pair arena pairs lists t (loose ++ length arena ∷ []) (add_loose arena pairs lists t loose (length arena) h)))
