use Rattle.std.proofs.Common.{sym, subst, arith}
use Rattle.std.specs.List.{Contains}
use Rattle.std.proofs.lemmas.List.Elements.{Contains-push}
use Rattle.propagation_trail.specs.Trails.{TrailState}
use Rattle.watched_propagation.specs.Watching.{pair_in, IsWatch}
use Rattle.watched_propagation.specs.Visits.{IsOther}
use Rattle.watched_propagation.proofs.Settling.{IsWatching-assigned}
use Rattle.watched_propagation.proofs.Turns.{within_listed}
use Rattle.watched_propagation.proofs.visit.settle.Goals as goal

pub assign-requires-clause-within : goal.assign-requires-clause-within
assign-requires-clause-within c =
    let o : IsOther c.read-pair.result c.args.falsified c.in-Some.other = c.in-Some.ensures.some in
    let watch : IsWatch (pair_in c.args.pairs.now c.args.clause) c.in-Some.other = subst (λ z. IsWatch z c.in-Some.other) c.read-pair.ensures o.other in
    let lt = within_listed c.args.lists.now c.in-Some.other c.args.clause (c.requires.watching.listing.listed c.args.clause c.in-Some.other watch) in
    let size = c.requires.watching.size in
    omega arith

pub returns-clause-watching : goal.returns-clause-watching
returns-clause-watching c = IsWatching-assigned c.args.arena.now c.args.pairs.now c.args.lists.now c.args.trail.now c.assign.new.self c.in-Some.other c.in_ok-assign.ensures.ok c.assign.ensures.propagated c.assign.ensures.rising c.requires.watching

pub returns-clause-settled : goal.returns-clause-settled
returns-clause-settled c =
    let o : IsOther c.read-pair.result c.args.falsified c.in-Some.other = c.in-Some.ensures.some in
    let watch : IsWatch (pair_in c.args.pairs.now c.args.clause) c.in-Some.other = subst (λ z. IsWatch z c.in-Some.other) c.read-pair.ensures o.other in
    (c.requires.watching.listing.inside c.args.clause c.in-Some.other watch, subst (λ (t : TrailState). Contains t.literals c.in-Some.other) (sym c.in_ok-assign.ensures.ok) (Contains-push c.args.trail.now.literals c.in-Some.other))
