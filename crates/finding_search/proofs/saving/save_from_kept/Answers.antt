use Rattle.std.proofs.Common.{sym, subst, ℕ}
use Rattle.clause_core.specs.Decisions.{IsSpent}
use Rattle.finding_lines.specs.declared.line.Asked.TheVariants.{Goal}
use Rattle.finding_lines.specs.declared.line.Conclusion.{Conclusion}
use Rattle.finding_lines.specs.declared.line.Line.TheVariants as lines
use Rattle.queries.specs.Comparisons.{Comparison}
use Rattle.queries.specs.Questions.{goal}
use Rattle.queries.specs.Meaning.{Answers}
use Rattle.queries.specs.Sets.{members}
use Rattle.pair_trial.specs.Trials.{comparison_of, setting_in}
use Rattle.judgement.specs.Steps.{opened}
use Rattle.judgement.specs.Places.{at_kept, at_end, in_log, finished}
use Rattle.judgement.specs.Tests.{related_by}
use Rattle.invariant_prune.specs.Answers.{pair_of}
use Rattle.finding_search.specs.Passing.{Passes}
use Rattle.finding_search.proofs.Going.{Writes-then, Writes-exit}
use Rattle.finding_search.proofs.Openings.{log_goal, query_goal, end_passes}
use Rattle.finding_search.proofs.RowNumbers.{goal-numbers}
use Rattle.finding_search.proofs.RowPasses.{pair_found}
use Rattle.finding_search.proofs.saving.save_from_kept.Goals as goals

pub write_pair-requires-clause-numbers : goals.write_pair-requires-clause-numbers
write_pair-requires-clause-numbers g c =
    let k = comparison_of c.args.trial.now in
    let a = rw c.in-Found.is at c.in_ok-found.ensures.answer in
    goal-numbers k c.requires.comparison (members c.args.set.now) c.in-Found.found
    (subst (λ (x : Comparison). Answers x (goal (members c.args.set.now)) (pair_of c.in-Found.found) c.in-Found.found.rows.items) c.requires.compared a)

pub returns-in_err-write_pair-in-Found : goals.returns-in_err-write_pair-in-Found
returns-in_err-write_pair-in-Found g c reach told =
    let k = comparison_of c.args.trial.now in
    let s = setting_in c.args.trial.now in
    let f = g.Q.Queries.formula c.args.queries.now in
    let set = members c.args.set.now in
    let a = rw c.in-Found.is at c.in_ok-found.ensures.answer in
    let b = subst (λ (x : Comparison). Answers x (goal (members c.args.set.now)) (pair_of c.in-Found.found) c.in-Found.found.rows.items) c.requires.compared a in
    Writes-exit s f _ _ _ _ _ _ _ c.from_residual-in_err-write_pair-in-Found.ensures.1
    (c.in_err-write_pair-in-Found.ensures s f _ _ (pair_found k f c.requires.comparison reach set (pair_of c.in-Found.found) c.in-Found.found.rows.items b))

pub returns-in_err-write_refutation-in-Refuted : goals.returns-in_err-write_refutation-in-Refuted
returns-in_err-write_refutation-in-Refuted g c reach told =
    let k = comparison_of c.args.trial.now in
    let s = setting_in c.args.trial.now in
    let f = g.Q.Queries.formula c.args.queries.now in
    let set = members c.args.set.now in
    let refutes = rw c.in-Refuted.is at c.in_ok-found.ensures.answer in
    Writes-exit s f _ _ _ _ _ _ _ c.from_residual-in_err-write_refutation-in-Refuted.ensures.1
    (c.in_err-write_refutation-in-Refuted.ensures s f (f (goal set)) c.limit_of-limit.result _ (at_end reach (related_by s set)) told (log_goal s f reach set) refutes)

pub returns-in_ok-write_pair-in-Found : goals.returns-in_ok-write_pair-in-Found
returns-in_ok-write_pair-in-Found g c reach told =
    let k = comparison_of c.args.trial.now in
    let s = setting_in c.args.trial.now in
    let f = g.Q.Queries.formula c.args.queries.now in
    let set = members c.args.set.now in
    let a = rw c.in-Found.is at c.in_ok-found.ensures.answer in
    let b = subst (λ (x : Comparison). Answers x (goal (members c.args.set.now)) (pair_of c.in-Found.found) c.in-Found.found.rows.items) c.requires.compared a in
    Writes-then s f _ _ _ _ _ (finished reach) _ _
    (c.in_ok-write_pair-in-Found.ensures s f _ _ (pair_found k f c.requires.comparison reach set (pair_of c.in-Found.found) c.in-Found.found.rows.items b)) (c.search.ensures reach told)

pub returns-in_ok-write_refutation-in-Refuted : goals.returns-in_ok-write_refutation-in-Refuted
returns-in_ok-write_refutation-in-Refuted g c reach told =
    let k = comparison_of c.args.trial.now in
    let s = setting_in c.args.trial.now in
    let f = g.Q.Queries.formula c.args.queries.now in
    let set = members c.args.set.now in
    let verdict = c.related_by.result in
    let refutes = rw c.in-Refuted.is at c.in_ok-found.ensures.answer in
    Writes-then s f _ _ _ _ _ (finished reach) _ _
    (c.in_ok-write_refutation-in-Refuted.ensures s f (f (goal set)) c.limit_of-limit.result _ (at_end reach verdict) told
    (subst (λ (v : Conclusion). Passes s f (at_kept reach set) (lines.Log Goal) (in_log (opened (f (goal set))) (at_end reach v))) (sym c.related_by.ensures.same) (log_goal s f reach set)) refutes)
    (c.write_end.ensures s f _ reach (end_passes s f reach verdict c.related_by.ensures.ending))

pub returns-in-Spent : goals.returns-in-Spent
returns-in-Spent g c reach told =
    let k = comparison_of c.args.trial.now in
    let s = setting_in c.args.trial.now in
    let f = g.Q.Queries.formula c.args.queries.now in
    let set = members c.args.set.now in
    let spent = rw c.in-Spent.is at c.in_ok-found.ensures.answer in
    let all = subst (λ (n : ℕ). IsSpent (f (goal (members c.args.set.now))) n c.in-Spent.log) (sym c.limit_of-limit.ensures.same) spent in
    c.write_spent.ensures s f (f (goal set)) _ reach told c.limit_of-limit.ensures.same tt (query_goal s f reach set) all
