use Rattle.std.proofs.Common.{suc, refl, sym, subst}
use Rattle.finding_lines.specs.declared.line.Asked.{Asked}
use Rattle.finding_lines.specs.declared.line.Line.TheVariants as lines
use Rattle.queries.specs.Settings.{setting_of, first_set}
use Rattle.queries.specs.Questions.{walk}
use Rattle.judgement.specs.Steps.{opened}
use Rattle.judgement.specs.Places.{at_drops, in_log, in_walk}
use Rattle.judgement.specs.Tests.{after_walk}
use Rattle.judgement.specs.declared.answers.Reach.{Reach}
use Rattle.judgement.specs.declared.answers.Reach.TheVariants.{Greatest, AtLeast}
use Rattle.finding_search.specs.Passing.{Passes}
use Rattle.finding_search.specs.Places.{after_all}
use Rattle.finding_search.proofs.Going.{Writes-exit, Writes-answer, Writes-nothing, Writes-spent}
use Rattle.finding_search.proofs.LogRuns.{greatest_told, walk_spent_runs}
use Rattle.finding_search.proofs.WalkRuns.{full_ends, log_ends, query_ends}
use Rattle.finding_search.proofs.walks.write_ending.Goals as goal

pub returns-in-Full-clause-writes : goal.returns-in-Full-clause-writes
returns-in-Full-clause-writes g c k formula pair some ends =
    let s = setting_of k in
    let full = rw c.in-Full.is at ends in
    Writes-answer s formula _ _ _ (λ (x : Unit {0}). after_walk s c.args.rows pair) tt (λ (reach : Reach). at_drops reach (first_set s)) (Greatest c.args.rows)
    (sym (full_ends k formula c.args.rows s.conflicts pair full)) (Writes-nothing s formula _ (λ (x : Unit {0}). after_walk s c.args.rows pair) tt)

pub returns-in_err-write_refutation-in-Refuted-clause-writes : goal.returns-in_err-write_refutation-in-Refuted-clause-writes
returns-in_err-write_refutation-in-Refuted-clause-writes g c k formula pair some ends =
    let s = setting_of k in
    let refuted = rw c.in-Refuted.is at ends in
    let f = formula (walk (suc c.args.rows)) in
    let behind = at_drops (Greatest c.args.rows) (first_set s) in
    Writes-exit s formula _ _ _ _ _ _ _ c.from_residual.ensures.1
    (c.in_err-write_refutation-in-Refuted.ensures s formula f s.conflicts (after_walk s c.args.rows pair) behind (greatest_told c.args.rows)
    (subst (λ (q : Asked). Passes s formula (after_walk s c.args.rows pair) (lines.Log q) (in_log (opened f) behind)) (sym c.walk_behind-asked.ensures.same)
    (log_ends k formula c.args.rows s.conflicts pair c.in-Refuted.log some refuted)) refuted.1)

pub returns-in_ok-write_refutation-in-Refuted-clause-writes : goal.returns-in_ok-write_refutation-in-Refuted-clause-writes
returns-in_ok-write_refutation-in-Refuted-clause-writes g c k formula pair some ends =
    let s = setting_of k in
    let refuted = rw c.in-Refuted.is at ends in
    let f = formula (walk (suc c.args.rows)) in
    let behind = at_drops (Greatest c.args.rows) (first_set s) in
    Writes-answer s formula _ _ _ (λ (x : Unit {0}). at_drops (Greatest c.args.rows) (first_set s)) tt (λ (reach : Reach). at_drops reach (first_set s)) (Greatest c.args.rows) refl
    (c.in_ok-write_refutation-in-Refuted.ensures s formula f s.conflicts (after_walk s c.args.rows pair) behind (greatest_told c.args.rows)
    (subst (λ (q : Asked). Passes s formula (after_walk s c.args.rows pair) (lines.Log q) (in_log (opened f) behind)) (sym c.walk_behind-asked.ensures.same)
    (log_ends k formula c.args.rows s.conflicts pair c.in-Refuted.log some refuted)) refuted.1)

pub returns-in_err-write_spent_log-in-Spent-clause-writes : goal.returns-in_err-write_spent_log-in-Spent-clause-writes
returns-in_err-write_spent_log-in-Spent-clause-writes g c k formula pair some ends =
    let s = setting_of k in
    let spent = rw c.in-Spent.is at ends in
    let f = formula (walk (suc c.args.rows)) in
    let inside = in_walk c.args.rows (opened f) s.conflicts in
    Writes-exit s formula _ _ _ _ _ _ _ c.from_residual-in_err-write_spent_log-in-Spent.ensures.1
    (c.in_err-write_spent_log-in-Spent.ensures s formula (after_walk s c.args.rows pair) inside (in_walk c.args.rows (after_all (opened f) c.in-Spent.log) 0)
    (subst (λ (q : Asked). Passes s formula (after_walk s c.args.rows pair) (lines.Query q) inside) (sym c.walk_behind-asked.ensures.same)
    (query_ends k formula c.args.rows s.conflicts pair c.in-Spent.log some spent)) (walk_spent_runs s formula f s.conflicts c.in-Spent.log c.args.rows spent.1))

pub returns-in_ok-write_spent_log-in-Spent-clause-writes : goal.returns-in_ok-write_spent_log-in-Spent-clause-writes
returns-in_ok-write_spent_log-in-Spent-clause-writes g c k formula pair some ends =
    let s = setting_of k in
    let spent = rw c.in-Spent.is at ends in
    let f = formula (walk (suc c.args.rows)) in
    let inside = in_walk c.args.rows (opened f) s.conflicts in
    Writes-spent s formula _ _ _ c.args.rows (after_all (opened f) c.in-Spent.log) tt (λ (reach : Reach). at_drops reach (first_set s)) (AtLeast c.args.rows) refl
    (c.in_ok-write_spent_log-in-Spent.ensures s formula (after_walk s c.args.rows pair) inside (in_walk c.args.rows (after_all (opened f) c.in-Spent.log) 0)
    (subst (λ (q : Asked). Passes s formula (after_walk s c.args.rows pair) (lines.Query q) inside) (sym c.walk_behind-asked.ensures.same)
    (query_ends k formula c.args.rows s.conflicts pair c.in-Spent.log some spent)) (walk_spent_runs s formula f s.conflicts c.in-Spent.log c.args.rows spent.1))
