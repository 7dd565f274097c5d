use Rattle.std.proofs.Common.{◌≡◌, ◌≤◌, ℕ, length, sym, subst, arith, List}
use Rattle.scan_model.specs.InRange.{Row}
use Rattle.queries.specs.Settings.{setting_of, first_set}
use Rattle.judgement.specs.Places.{at_walks, at_drops}
use Rattle.judgement.specs.Tests.{after_walk}
use Rattle.judgement.specs.declared.answers.Reach.{Reach}
use Rattle.reach_search.specs.Walks.{behind, EndsSo}
use Rattle.finding_search.specs.Passing.{Runs}
use Rattle.finding_search.specs.Shown.{walks_of}
use Rattle.finding_search.proofs.Going.{Writes-then, Writes-exit}
use Rattle.finding_search.proofs.WalkRuns.{rows_run, ends_so}
use Rattle.finding_search.proofs.walks.write_walk.Goals as goal

pub returns-in_err-write_rows-clause-writes : goal.returns-in_err-write_rows-clause-writes
returns-in_err-write_rows-clause-writes g c k formula limit is same walk =
    let s = setting_of k in
    let rows = c.args.walk.now.rows.items in
    Writes-exit s formula _ _ _ _ _ _ _ c.from_residual.ensures.1
    (c.in_err-write_rows.ensures s formula (at_walks 0 s.start) (after_walk s (length rows) (behind k rows))
    (subst (λ (rs : List Row). Runs s formula (at_walks 0 s.start) (walks_of rs) (after_walk s (length rows) (behind k rows))) (sym c.deref.ensures.value)
    (rows_run k formula limit is same c.args.walk.now walk)))

pub returns-clause-writes : goal.returns-clause-writes
returns-clause-writes g c k formula limit is same walk =
    let s = setting_of k in
    let rows = c.args.walk.now.rows.items in
    let counted : length c.args.walk.now.rows.items ≡ c.len.result = omega (arith, c.len.ensures) in
    let some : 1 ≤ c.len.result = let first = walk.some in omega (arith, first, counted) in
    let ends = subst (λ (n : ℕ). EndsSo k formula (setting_of k).conflicts n c.args.walk.now.end) counted (ends_so k formula limit is same c.args.walk.now walk) in
    let runs = subst (λ (n : ℕ). Runs (setting_of k) formula (at_walks 0 (setting_of k).start) (walks_of c.args.walk.now.rows.items) (after_walk (setting_of k) n (behind k c.args.walk.now.rows.items))) counted
    (rows_run k formula limit is same c.args.walk.now walk) in
    Writes-then s formula _ _ _ _ _ (λ (reach : Reach). at_drops reach (first_set s)) _ _
    (c.in_ok-write_rows.ensures s formula (at_walks 0 s.start) (after_walk s c.len.result (behind k rows))
    (subst (λ (rs : List Row). Runs s formula (at_walks 0 s.start) (walks_of rs) (after_walk s c.len.result (behind k rows))) (sym c.deref.ensures.value) runs))
    (c.write_ending.ensures.writes k formula (behind k rows) some ends)
