use Rattle.std.proofs.Common.{◌≡◌, ap, sym, subst, List, length, arith}
use Rattle.scan_model.specs.InRange.{Row}
use Rattle.scan_model.specs.Pairs.{start}
use Rattle.scan_replay.specs.Duos.{Compared}
use Rattle.queries.specs.Comparisons.{IsComparison}
use Rattle.pair_trial.specs.Trials.{comparison_of, setting_in}
use Rattle.judgement.specs.Places.{finished}
use Rattle.invariant_prune.specs.Answers.{pair_of}
use Rattle.finding_search.proofs.Going.{Writes-then, Writes-exit}
use Rattle.finding_search.proofs.DropLemmas.{starts_then}
use Rattle.finding_search.proofs.RowNumbers.{walk-numbers}
use Rattle.finding_search.proofs.RowPasses.{read_row, seen_allowed}
use Rattle.finding_search.proofs.saving.save_from_seen.Goals as goal

pub reach-requires-clause-allowed : goal.reach-requires-clause-allowed
reach-requires-clause-allowed g c =
    let k = comparison_of c.args.trial.now in
    let rows = c.args.seen.now.rows.items in
    let one : length rows ≡ 1 = ap (λ (rs : List Row). length rs) c.requires.seen.1 in
    seen_allowed k (g.Q.Queries.formula c.args.queries.now) c.requires.comparison (pair_of c.args.seen.now) rows c.requires.seen c.index.result.now
    (read_row rows c.index.result.now one c.index.ensures)

pub write_walk-requires-clause-few : goal.write_walk-requires-clause-few
write_walk-requires-clause-few g c = let most = c.in_ok-walk.ensures.walk.most in let few = c.requires.comparison.depth in omega (arith, most, few)

pub write_walk-requires-clause-numbers : goal.write_walk-requires-clause-numbers
write_walk-requires-clause-numbers g c =
    let k = comparison_of c.args.trial.now in
    walk-numbers k c.requires.comparison c.in_ok-walk.walk.rows.items (start k.old k.new) c.in_ok-walk.ensures.walk.allowed

pub returns-in_err-told-clause-writes : goal.returns-in_err-told-clause-writes
returns-in_err-told-clause-writes g c =
    let k = comparison_of c.args.trial.now in
    let s = setting_in c.args.trial.now in
    let f = g.Q.Queries.formula c.args.queries.now in
    Writes-exit s f _ _ _ _ _ _ _ c.from_residual-in_err-told.ensures.1
    (c.in_err-told.ensures.writes k f c.limit_of-limit.result c.requires.comparison c.limit_of-limit.ensures.same c.in_ok-walk.ensures.walk)

pub save_from_start-verdict-requires-clause-compared : goal.save_from_start-verdict-requires-clause-compared
save_from_start-verdict-requires-clause-compared g c =
    subst (λ (d : Compared). g.Q.Queries.compared c.args.queries.now ≡ comparison_of d) (sym c.in_ok-walk.ensures.trial) c.requires.compared

pub save_from_start-verdict-requires-clause-comparison : goal.save_from_start-verdict-requires-clause-comparison
save_from_start-verdict-requires-clause-comparison g c =
    subst (λ (d : Compared). IsComparison (comparison_of d)) (sym c.in_ok-walk.ensures.trial) c.requires.comparison

pub returns-clause-writes : goal.returns-clause-writes
returns-clause-writes g c =
    let k = comparison_of c.args.trial.now in
    let s = setting_in c.args.trial.now in
    let f = g.Q.Queries.formula c.args.queries.now in
    let told = c.in_ok-told.told in
    c.concluded.ensures.writes s f _ _ _
    (Writes-then s f _ _ _ _ _ (finished told) _ _
    (c.in_ok-told.ensures.writes k f c.limit_of-limit.result c.requires.comparison c.limit_of-limit.ensures.same c.in_ok-walk.ensures.walk)
    (starts_then f c.args.trial.now c.reach.new.trial _ _ told _ c.in_ok-walk.ensures.trial (c.save_from_start-verdict.ensures told c.in_ok-told.ensures.told)))
