use Rattle.std.proofs.Common.{sym, subst, ℕ}
use Rattle.clause_core.specs.Decisions.{IsSpent}
use Rattle.finding_lines.specs.declared.line.Conclusion.TheVariants.{Vacuous}
use Rattle.queries.specs.Comparisons.{Comparison}
use Rattle.queries.specs.Questions.{first}
use Rattle.queries.specs.Meaning.{Answers}
use Rattle.pair_trial.specs.Trials.{comparison_of, setting_in}
use Rattle.judgement.specs.Places.{at_end, finished, finished_by}
use Rattle.judgement.specs.declared.answers.Reach.TheVariants.{Unwalked}
use Rattle.invariant_prune.specs.Answers.{pair_of}
use Rattle.finding_search.proofs.Going.{Writes-then, Writes-exit}
use Rattle.finding_search.proofs.Openings.{log_first, query_first, end_passes}
use Rattle.finding_search.proofs.LogRuns.{unwalked_told}
use Rattle.finding_search.proofs.RowNumbers.{first-numbers}
use Rattle.finding_search.proofs.RowPasses.{seen_found}
use Rattle.finding_search.proofs.saving.save_from_header.Goals as goal

pub write_seen-requires-clause-numbers : goal.write_seen-requires-clause-numbers
write_seen-requires-clause-numbers g c =
    let k = comparison_of c.args.trial.now in
    let a = rw c.in-Found.is at c.in_ok-found.ensures in
    first-numbers k c.requires.comparison (pair_of c.in-Found.found) c.in-Found.found.rows.items
    (subst (λ (x : Comparison). Answers x first (pair_of c.in-Found.found) c.in-Found.found.rows.items) c.requires.compared a)

pub returns-in_err-write_seen-in-Found-clause-writes : goal.returns-in_err-write_seen-in-Found-clause-writes
returns-in_err-write_seen-in-Found-clause-writes g c =
    let k = comparison_of c.args.trial.now in
    let s = setting_in c.args.trial.now in
    let f = g.Q.Queries.formula c.args.queries.now in
    let a = rw c.in-Found.is at c.in_ok-found.ensures in
    let b = subst (λ (x : Comparison). Answers x first (pair_of c.in-Found.found) c.in-Found.found.rows.items) c.requires.compared a in
    Writes-exit s f _ _ _ _ _ _ _ c.from_residual-in_err-write_seen-in-Found.ensures.1
    (c.in_err-write_seen-in-Found.ensures s f _ _ (seen_found k f c.requires.comparison (pair_of c.in-Found.found) c.in-Found.found.rows.items b))

pub save_from_seen-requires-clause-seen : goal.save_from_seen-requires-clause-seen
save_from_seen-requires-clause-seen g c =
    let a = rw c.in-Found.is at c.in_ok-found.ensures in
    subst (λ (x : Comparison). Answers x first (pair_of c.in-Found.found) c.in-Found.found.rows.items) c.requires.compared a

pub returns-in_err-write_refutation-in-Refuted-clause-writes : goal.returns-in_err-write_refutation-in-Refuted-clause-writes
returns-in_err-write_refutation-in-Refuted-clause-writes g c =
    let s = setting_in c.args.trial.now in
    let f = g.Q.Queries.formula c.args.queries.now in
    let refutes = rw c.in-Refuted.is at c.in_ok-found.ensures in
    Writes-exit s f _ _ _ _ _ _ _ c.from_residual-in_err-write_refutation-in-Refuted.ensures.1
    (c.in_err-write_refutation-in-Refuted.ensures s f (f first) c.limit_of-limit.result _ (at_end Unwalked Vacuous) unwalked_told (log_first s f) refutes)

pub returns-in_ok-write_seen-in-Found-clause-writes : goal.returns-in_ok-write_seen-in-Found-clause-writes
returns-in_ok-write_seen-in-Found-clause-writes g c =
    let k = comparison_of c.args.trial.now in
    let s = setting_in c.args.trial.now in
    let f = g.Q.Queries.formula c.args.queries.now in
    let a = rw c.in-Found.is at c.in_ok-found.ensures in
    let b = subst (λ (x : Comparison). Answers x first (pair_of c.in-Found.found) c.in-Found.found.rows.items) c.requires.compared a in
    Writes-then s f _ _ _ _ _ finished_by _ _
    (c.in_ok-write_seen-in-Found.ensures s f _ _ (seen_found k f c.requires.comparison (pair_of c.in-Found.found) c.in-Found.found.rows.items b)) c.save_from_seen.ensures.writes

pub returns-in_ok-write_refutation-in-Refuted-clause-writes : goal.returns-in_ok-write_refutation-in-Refuted-clause-writes
returns-in_ok-write_refutation-in-Refuted-clause-writes g c =
    let s = setting_in c.args.trial.now in
    let f = g.Q.Queries.formula c.args.queries.now in
    let refutes = rw c.in-Refuted.is at c.in_ok-found.ensures in
    c.concluded.ensures.writes s f _ _ _
    (Writes-then s f _ _ _ _ _ (finished Unwalked) _ _
    (c.in_ok-write_refutation-in-Refuted.ensures s f (f first) c.limit_of-limit.result _ (at_end Unwalked Vacuous) unwalked_told (log_first s f) refutes)
    (c.write_end-verdict.ensures s f _ Unwalked (end_passes s f Unwalked Vacuous tt)))

pub returns-in-Spent-clause-writes : goal.returns-in-Spent-clause-writes
returns-in-Spent-clause-writes g c =
    let s = setting_in c.args.trial.now in
    let f = g.Q.Queries.formula c.args.queries.now in
    let spent = rw c.in-Spent.is at c.in_ok-found.ensures in
    let all = subst (λ (n : ℕ). IsSpent (f first) n c.in-Spent.log) (sym c.limit_of-limit.ensures.same) spent in
    c.concluded-in-Spent.ensures.writes s f _ _ _
    (c.write_spent-verdict.ensures s f (f first) _ Unwalked unwalked_told c.limit_of-limit.ensures.same tt (query_first s f) all)
