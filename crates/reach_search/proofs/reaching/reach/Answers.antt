use Rattle.std.proofs.Common.{◌≡◌, ◌+◌, ◌<◌, ◌∙◌, ℕ, suc, ap, sym, subst, length, arith, List}
use Rattle.clause_core.specs.Decisions.{IsRefutation, IsSpent}
use Rattle.scan_model.specs.InRange.{Row}
use Rattle.scan_replay.specs.Duos.{Compared}
use Rattle.queries.specs.Comparisons.{Comparison}
use Rattle.queries.specs.Questions.{walk, IsQueryOf}
use Rattle.queries.specs.Meaning.{Answers}
use Rattle.queries.specs.Settings.{setting_of}
use Rattle.pair_trial.specs.Trials.{comparison_of, setting_in}
use Rattle.invariant_prune.specs.Answers.{pair_of}
use Rattle.reach_search.specs.Walks.{behind}
use Rattle.reach_search.proofs.WalkLemmas.{asks_more, reached_found, still, depth_of, reached_in}
use Rattle.reach_search.proofs.reaching.reach.Goals as goal

pub returns-then-count-depth-clause-walk : goal.returns-then-count-depth-clause-walk
returns-then-count-depth-clause-walk g c =
    let first = c.args.trial.now in
    let r = reached_in first c.lists.trial c.go_on.new.rows.items c.go_on.new.trial.pair c.lists.invariant.trial c.in_ok-go_on.ensures.reached in
    let depth = depth_of first c.go_on.new.trial (still first c.lists.trial c.go_on.new.trial c.lists.invariant.trial c.in_ok-go_on.ensures.trial) in
    let all : length c.go_on.new.rows.items ≡ (comparison_of c.args.trial.now).relation.depth =
    let most = r.most in omega (arith, most, depth, c.if-count-depth.true, c.len-count.ensures, c.depth.ensures)
    in
    record { allowed = r.allowed; some = r.some; most = r.most; ends = all }

pub walk_at-requires-clause-rows : goal.walk_at-requires-clause-rows
walk_at-requires-clause-rows g c =
    let first = c.args.trial.now in
    let k = comparison_of c.args.trial.now in
    let same : (setting_in c.go_on.new.trial).depth ≡ (setting_in c.args.trial.now).depth =
    ap (λ (d : Compared). (setting_in d).depth) (still first c.lists.trial c.go_on.new.trial c.lists.invariant.trial c.in_ok-go_on.ensures.trial)
    in
    let below : c.len-count.result < (setting_of k).depth = omega (arith, same, c.if-count-depth.false, c.depth.ensures) in
    subst (λ (x : Comparison). IsQueryOf x (walk (c.len-count.result + 1))) (sym c.requires.compared) (asks_more k c.len-count.result below)

pub lists-preserved : goal.lists-preserved
lists-preserved g c =
    let first = c.args.trial.now in
    let k = comparison_of c.args.trial.now in
    let found = c.in-Found.found.rows.items in
    let moved = still first c.lists.trial c.go_on.new.trial c.lists.invariant.trial c.in_ok-go_on.ensures.trial in
    let depth = depth_of first c.go_on.new.trial moved in
    let below : c.len-count.result < k.relation.depth = omega (arith, depth, c.if-count-depth.false, c.depth.ensures) in
    let a = rw c.in-Found.is at c.in_ok-found.ensures in
    let b = subst (λ (x : Comparison). Answers x (walk (c.len-count.result + 1)) (pair_of c.in-Found.found) c.in-Found.found.rows.items) c.requires.compared a in
    let led : c.run_rows.new.trial.pair ≡ behind k c.in-Found.found.rows.items =
    c.run_rows.ensures.pair ∙ ap (λ (d : Compared). behind (comparison_of d) c.deref.result.now) moved ∙ ap (λ (rs : List Row). behind k rs) c.deref.ensures.value
    in
    record {
      reached = reached_found k c.len-count.result (pair_of c.in-Found.found) c.rows_of-rows.result.items found c.run_rows.new.trial.pair b below (ap (λ v. v.items) c.rows_of-rows.ensures) led;
      trial = still first c.go_on.new.trial c.run_rows.new.trial moved c.run_rows.ensures.trial;
    }

pub returns-in-Refuted-clause-walk : goal.returns-in-Refuted-clause-walk
returns-in-Refuted-clause-walk g c =
    let first = c.args.trial.now in
    let f = g.Q.Queries.formula c.args.queries.now in
    let r = reached_in first c.lists.trial c.go_on.new.rows.items c.go_on.new.trial.pair c.lists.invariant.trial c.in_ok-go_on.ensures.reached in
    let depth = depth_of first c.go_on.new.trial (still first c.lists.trial c.go_on.new.trial c.lists.invariant.trial c.in_ok-go_on.ensures.trial) in
    let below : length c.go_on.new.rows.items < (comparison_of c.args.trial.now).relation.depth =
    omega (arith, depth, c.if-count-depth.false, c.len-count.ensures, c.depth.ensures)
    in
    let next : c.len-count.result + 1 ≡ suc (length c.go_on.new.rows.items) = omega (arith, c.len-count.ensures) in
    let refutes = rw c.in-Refuted.is at c.in_ok-found.ensures in
    record { allowed = r.allowed; some = r.some; most = r.most; ends = (below, subst (λ (n : ℕ). IsRefutation (f (walk n)) c.args.limit c.in-Refuted.log) next refutes) }

pub returns-in-Spent-clause-walk : goal.returns-in-Spent-clause-walk
returns-in-Spent-clause-walk g c =
    let first = c.args.trial.now in
    let f = g.Q.Queries.formula c.args.queries.now in
    let r = reached_in first c.lists.trial c.go_on.new.rows.items c.go_on.new.trial.pair c.lists.invariant.trial c.in_ok-go_on.ensures.reached in
    let depth = depth_of first c.go_on.new.trial (still first c.lists.trial c.go_on.new.trial c.lists.invariant.trial c.in_ok-go_on.ensures.trial) in
    let below : length c.go_on.new.rows.items < (comparison_of c.args.trial.now).relation.depth =
    omega (arith, depth, c.if-count-depth.false, c.len-count.ensures, c.depth.ensures)
    in
    let next : c.len-count.result + 1 ≡ suc (length c.go_on.new.rows.items) = omega (arith, c.len-count.ensures) in
    let spent = rw c.in-Spent.is at c.in_ok-found.ensures in
    record { allowed = r.allowed; some = r.some; most = r.most; ends = (below, subst (λ (n : ℕ). IsSpent (f (walk n)) c.args.limit c.in-Spent.log) next spent) }
