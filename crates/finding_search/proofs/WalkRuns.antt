-- Rows of an allowed list pass as they are written.
use Rattle.std.proofs.Common.{◌≡◌, ℕ, suc, ◌+◌, ◌<◌, ◌≤◌, true, List, [], ◌∷◌, length, refl, sym, ap, ◌∙◌, subst, arith, pos}
use Rattle.clause_core.specs.declared.log.Entry.{Entry}
use Rattle.clause_core.specs.Formula.{Formula}
use Rattle.finding_lines.specs.declared.line.Asked.TheVariants.{Walk as WalkAsked}
use Rattle.finding_lines.specs.declared.line.Line.TheVariants as lines
use Rattle.scan_model.specs.InRange.{Row}
use Rattle.scan_model.specs.Pairs.{Pair, start, is_allowed, after_row}
use Rattle.scan_model.specs.Runs.{after_rows}
use Rattle.scan_model.specs.Verdicts.{AreAllowedFrom}
use Rattle.queries.specs.Comparisons.{Comparison, IsComparison}
use Rattle.queries.specs.Settings.{setting_of, first_set}
use Rattle.queries.specs.Questions.{QueryData, walk}
use Rattle.judgement.specs.Steps.{opened}
use Rattle.judgement.specs.Places.{Place, at_walks, in_walk, in_log, at_drops, goes}
use Rattle.judgement.specs.Tests.{after_walk}
use Rattle.judgement.specs.declared.answers.Reason.TheVariants.{B2, B3}
use Rattle.judgement.specs.declared.answers.Reach.TheVariants.{Greatest}
use Rattle.reach_search.specs.declared.walk.End.TheVariants.{Full, Refuted, Spent}
use Rattle.reach_search.specs.declared.walk.Walk.{Walk}
use Rattle.reach_search.specs.Walks.{AreAllowed, behind, EndsSo, IsWalk}
use Rattle.finding_search.specs.Passing.{Passes, Runs}
use Rattle.finding_search.specs.Shown.{walks_of}
use Rattle.finding_search.proofs.LogRuns.{when-true}
use Rattle.finding_search.proofs.Openings.{after_walk-less, after_walk-all, log_walk, query_walk}
use Rattle.finding_search.proofs.RowPasses.{allowed-setting, fits-setting, after-setting, start-setting, some_depth}

module _ (c : Comparison) (formula : QueryData → Formula) where
  -- the next row
  walk_passes : (count : ℕ) (pair : Pair) (row : Row) → is_allowed c.relation row pair ≡ true
      → Passes (setting_of c) formula (at_walks count pair) (lines.Walk row) (after_walk (setting_of c) (suc count) (after_row c.old c.new c.relation row pair))
  walk_passes count pair row ok = record {
    form = tt;
    moves = (
      true,
      (λ _. (λ _. tt, λ _. refl)),
      when-true _ B2 _ _ (fits-setting c row pair ok) (when-true _ B3 _ _ (allowed-setting c row pair ok)
          (ap (λ p. goes (after_walk (setting_of c) (suc count) p)) (after-setting c row pair))),
    );
    tight = tt;
  }

  walks_run : (rows : List Row) (count total : ℕ) (pair : Pair) → total ≡ count + length rows → total ≤ (setting_of c).depth → AreAllowedFrom c.old c.new c.relation pair rows
      → Runs (setting_of c) formula (after_walk (setting_of c) count pair) (walks_of rows) (after_walk (setting_of c) total (after_rows c.old c.new c.relation rows pair))
  walks_run [] count total pair all most allowed = let same : count ≡ total = omega (arith, all) in ap (λ n. after_walk (setting_of c) n pair) same
  walks_run (row ∷ rows) count total pair all most allowed =
      let below : count < (setting_of c).depth = omega (arith, all, most) in
      let next = after_row c.old c.new c.relation row pair in (
        after_walk (setting_of c) (suc count) (after_row c.old c.new c.relation row pair),
        subst (λ (place : Place). Passes (setting_of c) formula place (lines.Walk row) (after_walk (setting_of c) (suc count) (after_row c.old c.new c.relation row pair)))
            (sym (after_walk-less (setting_of c) formula count pair below)) (walk_passes count pair row allowed.0),
        walks_run rows (suc count) total (after_row c.old c.new c.relation row pair) (omega (arith, all)) most allowed.1,
      )

  -- all rows of the list, from behind the first row that was seen
  pub all_walks_run : IsComparison c → (rows : List Row) → length rows ≤ (setting_of c).depth → AreAllowed c rows
      → Runs (setting_of c) formula (at_walks 0 (setting_of c).start) (walks_of rows) (after_walk (setting_of c) (length rows) (behind c rows))
  all_walks_run is rows most allowed =
      subst (λ (place : Place). Runs (setting_of c) formula place (walks_of rows) (after_walk (setting_of c) (length rows) (behind c rows)))
      (after_walk-less (setting_of c) formula 0 (start c.old c.new) (some_depth c is) ∙ ap (λ (p : Pair). at_walks 0 p) (start-setting c))
      (walks_run rows 0 (length rows) (start c.old c.new) (omega arith) most allowed)

  -- what comes behind the rows
  pub full_ends : (rows limit : ℕ) (pair : Pair) → EndsSo c formula limit rows Full → after_walk (setting_of c) rows pair ≡ at_drops (Greatest rows) (first_set (setting_of c))
  unfolding setting_of
  full_ends rows limit pair all = after_walk-all (setting_of c) formula rows pair (omega (arith, all))

  goes_on : (rows : ℕ) (pair : Pair) → rows < c.relation.depth → after_walk (setting_of c) rows pair ≡ at_walks rows pair
  unfolding setting_of
  goes_on rows pair below = after_walk-less (setting_of c) formula rows pair below

  module _ (rows limit : ℕ) (pair : Pair) (log : List Entry) (some : 1 ≤ rows) where
    pub log_ends : EndsSo c formula limit rows (Refuted log)
        → Passes (setting_of c) formula (after_walk (setting_of c) rows pair) (lines.Log (WalkAsked (pos (rows + 1))))
        (in_log (opened (formula (walk (suc rows)))) (at_drops (Greatest rows) (first_set (setting_of c))))
    log_ends ends =
        subst (λ (place : Place). Passes (setting_of c) formula place (lines.Log (WalkAsked (pos (rows + 1))))
        (in_log (opened (formula (walk (suc rows)))) (at_drops (Greatest rows) (first_set (setting_of c)))))
        (sym (goes_on rows pair ends.0)) (log_walk (setting_of c) formula rows pair (omega (arith, some)))

    pub query_ends : EndsSo c formula limit rows (Spent log)
        → Passes (setting_of c) formula (after_walk (setting_of c) rows pair) (lines.Query (WalkAsked (pos (rows + 1))))
        (in_walk rows (opened (formula (walk (suc rows)))) (setting_of c).conflicts)
    query_ends ends =
        subst (λ (place : Place). Passes (setting_of c) formula place (lines.Query (WalkAsked (pos (rows + 1))))
        (in_walk rows (opened (formula (walk (suc rows)))) (setting_of c).conflicts))
        (sym (goes_on rows pair ends.0)) (query_walk (setting_of c) formula rows pair (omega (arith, some)))

  -- what a walk says of its rows and of what comes behind them
  module _ (limit : ℕ) (is : IsComparison c) (same : (setting_of c).conflicts ≡ limit) (w : Walk) (is_walk : IsWalk c formula limit w) where
    pub rows_run : Runs (setting_of c) formula (at_walks 0 (setting_of c).start) (walks_of w.rows.items) (after_walk (setting_of c) (length w.rows.items) (behind c w.rows.items))
    unfolding setting_of
    rows_run = all_walks_run is w.rows.items is_walk.most is_walk.allowed

    pub ends_so : EndsSo c formula (setting_of c).conflicts (length w.rows.items) w.end
    ends_so = subst (λ n. EndsSo c formula n (length w.rows.items) w.end) (sym same) is_walk.ends
