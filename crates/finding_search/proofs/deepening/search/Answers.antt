use Rattle.std.proofs.Common.{◌+◌, ◌<◌, ◌≤◌, ◌∙◌, sym, ap, subst, ℕ, arith, List, pos}
use Rattle.clause_core.specs.Decisions.{IsSpent}
use Rattle.finding_lines.specs.declared.line.Asked.{Asked}
use Rattle.finding_lines.specs.declared.line.Conclusion.TheVariants.{Different, Spent}
use Rattle.finding_lines.specs.Form.{IsEnding}
use Rattle.finding_lines.specs.declared.line.Line.TheVariants as lines
use Rattle.scan_model.specs.InRange.{Row}
use Rattle.scan_model.specs.Pairs.{start}
use Rattle.queries.specs.Comparisons.{Comparison}
use Rattle.queries.specs.Questions.{deep, IsQueryOf}
use Rattle.queries.specs.Meaning.{Answers}
use Rattle.queries.specs.Sets.{members}
use Rattle.queries.proofs.SettingLemmas.{IsQueryOf-deep}
use Rattle.pair_trial.specs.Trials.{comparison_of, setting_in}
use Rattle.judgement.specs.Steps.{opened}
use Rattle.judgement.specs.Places.{at_deep, at_end, in_log, in_query, finished}
use Rattle.judgement.specs.Tests.{after_deep}
use Rattle.invariant_prune.specs.Answers.{pair_of}
use Rattle.finding_search.specs.Numbered.{AreNumberRows}
use Rattle.finding_search.specs.Passing.{Passes, Runs}
use Rattle.finding_search.specs.Shown.{scans_of}
use Rattle.finding_search.proofs.Going.{Writes-then, Writes-exit, Writes-short, Writes-answer, Writes-nothing}
use Rattle.finding_search.proofs.Openings.{log_deep, query_deep, end_passes, after_deep-less, after_deep-all, after_deep-told}
use Rattle.finding_search.proofs.RowNumbers.{break-numbers}
use Rattle.finding_search.proofs.RowPasses.{break_runs, some_depth, most_depth}
use Rattle.finding_search.proofs.deepening.search.Goals as goal

pub depths-init : goal.depths-init
depths-init g c reach told =
    let k = comparison_of c.args.trial.now in
    let s = setting_in c.args.trial.now in
    let f = g.Q.Queries.formula c.args.queries.now in
    let set = members c.args.set.now in
    Writes-answer s f _ _ _ (λ (x : Unit {0}). at_deep reach set 0) tt (λ (x : Unit {0}). after_deep s reach set 0) tt (after_deep-less s f reach set 0 (some_depth k c.requires.comparison))
    (Writes-nothing s f _ (λ (x : Unit {0}). at_deep reach set 0) tt)

pub deep_at-asked-requires : goal.deep_at-asked-requires
deep_at-asked-requires g c =
    let most = most_depth (comparison_of c.args.trial.now) c.requires.comparison in
    omega (arith, most, c.depths-test.true, c.depth-none-end.ensures)

pub search_at-requires-clause-scans : goal.search_at-requires-clause-scans
search_at-requires-clause-scans g c =
    let k = comparison_of c.args.trial.now in
    let s = setting_in c.args.trial.now in
    let f = g.Q.Queries.formula c.args.queries.now in
    let less : c.depths.none < (setting_in c.args.trial.now).depth = omega (arith, c.depths-test.true, c.depth-none-end.ensures) in
    subst (λ (x : Comparison). IsQueryOf x (deep (c.depths.none + 1))) (sym c.requires.compared) (IsQueryOf-deep k c.depths.none less)

pub returns-in_err-found : goal.returns-in_err-found
returns-in_err-found g c reach told =
    Writes-short (setting_in c.args.trial.now) (g.Q.Queries.formula c.args.queries.now) _ _ _ _ _ _ _ c.from_residual.ensures.1 (c.depths.invariant reach told)

pub write_break-requires-clause-few : goal.write_break-requires-clause-few
write_break-requires-clause-few g c =
    let most = most_depth (comparison_of c.args.trial.now) c.requires.comparison in
    omega (arith, most, c.depths-test.true, c.depth-none-end.ensures)

pub write_break-requires-clause-numbers : goal.write_break-requires-clause-numbers
write_break-requires-clause-numbers g c =
    let k = comparison_of c.args.trial.now in
    let a = rw c.in-Found.is at c.in_ok-found.ensures in
    let b = subst (λ (x : Comparison). Answers x (deep (c.depths.none + 1)) (pair_of c.in-Found.found) c.in-Found.found.rows.items) c.requires.compared a in
    subst AreNumberRows (sym c.deref.ensures.value) (break-numbers k c.requires.comparison c.in-Found.found.rows.items (start k.old k.new) b.1)

pub returns-in-Found : goal.returns-in-Found
returns-in-Found g c reach told =
    let k = comparison_of c.args.trial.now in
    let s = setting_in c.args.trial.now in
    let f = g.Q.Queries.formula c.args.queries.now in
    let set = members c.args.set.now in
    let none = c.depths.none in
    let less : c.depths.none < (setting_in c.args.trial.now).depth = omega (arith, c.depths-test.true, c.depth-none-end.ensures) in
    let a = rw c.in-Found.is at c.in_ok-found.ensures in
    let b = subst (λ (x : Comparison). Answers x (deep (c.depths.none + 1)) (pair_of c.in-Found.found) c.in-Found.found.rows.items) c.requires.compared a in
    Writes-then s f _ _ _ _ _ (finished reach) _ _
    (Writes-answer s f _ _ _ _ _ (λ (x : Unit {0}). at_deep reach set none) tt (sym (after_deep-less s f reach set none less)) (c.depths.invariant reach told))
    (c.write_break.ensures s f _ reach
    (subst (λ (rows : List Row). Runs s f (at_deep reach set none) (scans_of rows) (at_end reach (Different (pos (none + 1))))) (sym c.deref.ensures.value)
    (break_runs k f c.requires.comparison reach set none c.in-Found.found.rows.items b.0 b.1)))

pub returns-in_err-write_refutation-in-Refuted : goal.returns-in_err-write_refutation-in-Refuted
returns-in_err-write_refutation-in-Refuted g c reach told =
    let k = comparison_of c.args.trial.now in
    let s = setting_in c.args.trial.now in
    let f = g.Q.Queries.formula c.args.queries.now in
    let set = members c.args.set.now in
    let none = c.depths.none in
    let less : c.depths.none < (setting_in c.args.trial.now).depth = omega (arith, c.depths-test.true, c.depth-none-end.ensures) in
    let refutes = rw c.in-Refuted.is at c.in_ok-found.ensures in
    Writes-exit s f _ _ _ _ _ _ _ c.from_residual-in_err-write_refutation-in-Refuted.ensures.1
    (Writes-then s f _ _ _ _ _ _ _ _
    (Writes-answer s f _ _ _ _ _ (λ (x : Unit {0}). at_deep reach set none) tt (sym (after_deep-less s f reach set none less)) (c.depths.invariant reach told))
    (c.in_err-write_refutation-in-Refuted.ensures s f (f (deep (none + 1))) c.limit_of-limit.result _ (after_deep s reach set (none + 1)) (after_deep-told s f reach set (none + 1) told)
    (subst (λ (q : Asked). Passes s f (at_deep reach set none) (lines.Log q) (in_log (opened (f (deep (none + 1)))) (after_deep s reach set (none + 1)))) (sym c.deep_at-asked.ensures.same) (log_deep s f reach set none)) refutes))

pub returns-in-Spent : goal.returns-in-Spent
returns-in-Spent g c reach told =
    let k = comparison_of c.args.trial.now in
    let s = setting_in c.args.trial.now in
    let f = g.Q.Queries.formula c.args.queries.now in
    let set = members c.args.set.now in
    let none = c.depths.none in
    let less : c.depths.none < (setting_in c.args.trial.now).depth = omega (arith, c.depths-test.true, c.depth-none-end.ensures) in
    let spent = rw c.in-Spent.is at c.in_ok-found.ensures in
    let all = subst (λ (n : ℕ). IsSpent (f (deep (none + 1))) n c.in-Spent.log) (sym c.limit_of-limit.ensures.same) spent in
    Writes-then s f _ _ _ _ _ (finished reach) _ _
    (Writes-answer s f _ _ _ _ _ (λ (x : Unit {0}). at_deep reach set none) tt (sym (after_deep-less s f reach set none less)) (c.depths.invariant reach told))
    (c.write_spent.ensures s f (f (deep (none + 1))) _ reach told c.limit_of-limit.ensures.same
    (subst (λ (q : Asked). IsEnding (Spent q (pos c.limit_of-limit.result))) (sym c.deep_at-asked.ensures.same) tt)
    (subst (λ (q : Asked). Passes s f (at_deep reach set none) (lines.Query q) (in_query reach q (opened (f (deep (none + 1)))) s.conflicts)) (sym c.deep_at-asked.ensures.same) (query_deep s f reach set none)) all)

pub depths-preserved : goal.depths-preserved
depths-preserved g c reach told =
    let k = comparison_of c.args.trial.now in
    let s = setting_in c.args.trial.now in
    let f = g.Q.Queries.formula c.args.queries.now in
    let set = members c.args.set.now in
    let none = c.depths.none in
    let less : c.depths.none < (setting_in c.args.trial.now).depth = omega (arith, c.depths-test.true, c.depth-none-end.ensures) in
    let refutes = rw c.in-Refuted.is at c.in_ok-found.ensures in
    Writes-then s f _ _ _ _ _ _ _ _
    (Writes-answer s f _ _ _ _ _ (λ (x : Unit {0}). at_deep reach set none) tt (sym (after_deep-less s f reach set none less)) (c.depths.invariant reach told))
    (c.in_ok-write_refutation-in-Refuted.ensures s f (f (deep (none + 1))) c.limit_of-limit.result _ (after_deep s reach set (none + 1)) (after_deep-told s f reach set (none + 1) told)
    (subst (λ (q : Asked). Passes s f (at_deep reach set none) (lines.Log q) (in_log (opened (f (deep (none + 1)))) (after_deep s reach set (none + 1)))) (sym c.deep_at-asked.ensures.same) (log_deep s f reach set none)) refutes)

pub returns : goal.returns
returns g c reach told =
    let k = comparison_of c.args.trial.now in
    let s = setting_in c.args.trial.now in
    let f = g.Q.Queries.formula c.args.queries.now in
    let set = members c.args.set.now in
    let none = c.depths.none in
    let verdict = c.open_by.result in
    let done : s.depth ≤ none = omega (arith, c.depths-test.false, c.depth-none-end.ensures) in
    Writes-then s f _ _ _ _ _ (finished reach) _ _
    (Writes-answer s f _ _ _ _ _ (λ (x : Unit {0}). at_end reach verdict) tt (ap (at_end reach) c.open_by.ensures.same ∙ sym (after_deep-all s f reach set none done)) (c.depths.invariant reach told))
    (c.write_end.ensures s f _ reach (end_passes s f reach verdict c.open_by.ensures.ending))
