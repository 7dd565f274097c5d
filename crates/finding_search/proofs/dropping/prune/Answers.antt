use Rattle.std.proofs.Common.{◌≡◌, ◌<◌, ◌≤◌, ◌∙◌, refl, sym, ap, subst, ℕ, arith}
use Rattle.clause_core.specs.Decisions.{IsSpent}
use Rattle.scan_model.specs.Verdicts.{size_below}
use Rattle.scan_replay.specs.Duos.{Compared}
use Rattle.queries.specs.Comparisons.{Comparison, IsComparison}
use Rattle.queries.specs.Questions.{QueryData, step, IsQueryOf}
use Rattle.queries.specs.Meaning.{Answers, Means}
use Rattle.queries.specs.Sets.{members}
use Rattle.pair_trial.specs.Trials.{comparison_of, setting_in}
use Rattle.invariant_prune.specs.Answers.{pair_of}
use Rattle.finding_search.specs.Places.{place_of}
use Rattle.finding_search.proofs.Going.{Writes-then, Writes-exit, Writes-short, Writes-answer}
use Rattle.finding_search.specs.declared.dropping.Pruned.TheVariants.{Kept, Spent}
use Rattle.finding_search.proofs.DropLemmas.{drops_then, still}
use Rattle.finding_search.proofs.Whole.{is_pruned}
use Rattle.finding_search.proofs.Openings.{log_step, query_step}
use Rattle.finding_search.proofs.dropping.prune.Goals as goal

pub drop_guessed-requires : goal.drop_guessed-requires
drop_guessed-requires g c = record { comparison = subst (λ (d : Compared). IsComparison (comparison_of d)) (sym c.rows.invariant.trial) c.requires.comparison }

pub returns-in_err-drop_guessed-clause-writes : goal.returns-in_err-drop_guessed-clause-writes
returns-in_err-drop_guessed-clause-writes g c reach told =
    let f = g.Q.Queries.formula c.args.queries.now in
    Writes-exit (setting_in c.args.trial.now) f _ _ _ _ _ _ _ c.from_residual.ensures.1
    (drops_then f c.args.trial.now c.rows.trial _ _ _ reach _ _ _ _ c.rows.invariant.trial (c.rows.invariant.writes reach) (c.in_err-drop_guessed.ensures.writes reach f))

pub returns-in_err-found-clause-writes : goal.returns-in_err-found-clause-writes
returns-in_err-found-clause-writes g c reach told =
    let f = g.Q.Queries.formula c.args.queries.now in
    Writes-short (setting_in c.args.trial.now) f _ _ _ _ _ _ _ c.from_residual-in_err-found.ensures.1
    (drops_then f c.args.trial.now c.rows.trial _ _ _ reach _ _ _ _ c.rows.invariant.trial (c.rows.invariant.writes reach) (c.in_ok-drop_guessed.ensures.writes reach f))

pub returns-in_err-write_refutation-in-Refuted-clause-writes : goal.returns-in_err-write_refutation-in-Refuted-clause-writes
returns-in_err-write_refutation-in-Refuted-clause-writes g c reach told =
    let s = setting_in c.args.trial.now in
    let f = g.Q.Queries.formula c.args.queries.now in
    let refutes = rw c.in-Refuted.is at c.in_ok-found.ensures.answer in
    Writes-exit s f _ _ _ _ _ _ _ c.from_residual-in_err-write_refutation-in-Refuted.ensures.1
    (Writes-then s f _ _ _ _ _ _ _ _
    (drops_then f c.args.trial.now c.rows.trial _ _ _ reach _ _ _ _ c.rows.invariant.trial (c.rows.invariant.writes reach) (c.in_ok-drop_guessed.ensures.writes reach f))
    (c.in_err-write_refutation-in-Refuted.ensures s f (f (step (members c.drop_guessed.new.set))) c.limit_of-limit.result _ _ told (log_step s f reach (members c.drop_guessed.new.set)) refutes))

pub returns-in-Refuted-clause-writes : goal.returns-in-Refuted-clause-writes
returns-in-Refuted-clause-writes g c reach told =
    let s = setting_in c.args.trial.now in
    let f = g.Q.Queries.formula c.args.queries.now in
    let refutes = rw c.in-Refuted.is at c.in_ok-found.ensures.answer in
    Writes-answer s f _ _ _ _ _ (place_of reach) _ refl
    (Writes-then s f _ _ _ _ _ _ _ _
    (drops_then f c.args.trial.now c.rows.trial _ _ _ reach _ _ _ _ c.rows.invariant.trial (c.rows.invariant.writes reach) (c.in_ok-drop_guessed.ensures.writes reach f))
    (c.in_ok-write_refutation-in-Refuted.ensures s f (f (step (members c.drop_guessed.new.set))) c.limit_of-limit.result _ _ told (log_step s f reach (members c.drop_guessed.new.set)) refutes))

pub returns-in_err-verdict-in-Spent-clause-writes : goal.returns-in_err-verdict-in-Spent-clause-writes
returns-in_err-verdict-in-Spent-clause-writes g c reach told =
    let s = setting_in c.args.trial.now in
    let f = g.Q.Queries.formula c.args.queries.now in
    let spent = rw c.in-Spent.is at c.in_ok-found.ensures.answer in
    let all = subst (λ (n : ℕ). IsSpent (f (step (members c.drop_guessed.new.set))) n c.in-Spent.log) (sym c.limit_of-limit.ensures.same) spent in
    Writes-exit s f _ _ _ _ _ _ _ c.from_residual-in_err-verdict-in-Spent.ensures.1
    (Writes-then s f _ _ _ _ _ _ _ _
    (drops_then f c.args.trial.now c.rows.trial _ _ _ reach _ _ _ _ c.rows.invariant.trial (c.rows.invariant.writes reach) (c.in_ok-drop_guessed.ensures.writes reach f))
    (c.in_err-verdict-in-Spent.ensures s f (f (step (members c.drop_guessed.new.set))) _ reach told c.limit_of-limit.ensures.same tt (query_step s f reach (members c.drop_guessed.new.set)) all))

pub returns-in-Spent-clause-writes : goal.returns-in-Spent-clause-writes
returns-in-Spent-clause-writes g c reach told =
    let s = setting_in c.args.trial.now in
    let f = g.Q.Queries.formula c.args.queries.now in
    let spent = rw c.in-Spent.is at c.in_ok-found.ensures.answer in
    let all = subst (λ (n : ℕ). IsSpent (f (step (members c.drop_guessed.new.set))) n c.in-Spent.log) (sym c.limit_of-limit.ensures.same) spent in
    Writes-answer s f _ _ _ _ _ (place_of reach) _ refl
    (Writes-then s f _ _ _ _ _ _ _ _
    (drops_then f c.args.trial.now c.rows.trial _ _ _ reach _ _ _ _ c.rows.invariant.trial (c.rows.invariant.writes reach) (c.in_ok-drop_guessed.ensures.writes reach f))
    (c.in_ok-verdict-in-Spent.ensures s f (f (step (members c.drop_guessed.new.set))) _ reach told c.limit_of-limit.ensures.same tt (query_step s f reach (members c.drop_guessed.new.set)) all))

pub drop_by-requires-clause-comparison : goal.drop_by-requires-clause-comparison
drop_by-requires-clause-comparison g c =
    let same = still c.args.trial.now c.rows.trial c.drop_guessed.new.trial c.rows.invariant.trial c.in_ok-drop_guessed.ensures.trial in
    subst (λ (d : Compared). IsComparison (comparison_of d)) (sym same) c.requires.comparison

pub drop_by-requires-clause-found : goal.drop_by-requires-clause-found
drop_by-requires-clause-found g c =
    let a = rw c.in-Found.is at c.in_ok-found.ensures.answer in
    let same = still c.args.trial.now c.rows.trial c.drop_guessed.new.trial c.rows.invariant.trial c.in_ok-drop_guessed.ensures.trial in
    let here : comparison_of c.drop_guessed.new.trial ≡ comparison_of c.args.trial.now = ap comparison_of same in
    subst (λ (k : Comparison). Answers k (step (members c.drop_guessed.new.set)) (pair_of c.in-Found.found) c.in-Found.found.rows.items) (c.requires.compared ∙ sym here) a

pub returns-in_err-drop_by-in-Found-clause-writes : goal.returns-in_err-drop_by-in-Found-clause-writes
returns-in_err-drop_by-in-Found-clause-writes g c reach told =
    let s = setting_in c.args.trial.now in
    let f = g.Q.Queries.formula c.args.queries.now in
    let same = still c.args.trial.now c.rows.trial c.drop_guessed.new.trial c.rows.invariant.trial c.in_ok-drop_guessed.ensures.trial in
    Writes-exit s f _ _ _ _ _ _ _ c.from_residual-in_err-drop_by-in-Found.ensures.1
    (drops_then f c.args.trial.now c.drop_guessed.new.trial _ _ _ reach _ _ _ _ same
    (drops_then f c.args.trial.now c.rows.trial _ _ _ reach _ _ _ _ c.rows.invariant.trial (c.rows.invariant.writes reach) (c.in_ok-drop_guessed.ensures.writes reach f))
    (c.in_err-drop_by-in-Found.ensures.writes reach f))

pub returns-in_err-found-in-Found-clause-writes : goal.returns-in_err-found-in-Found-clause-writes
returns-in_err-found-in-Found-clause-writes g c reach told =
    let s = setting_in c.args.trial.now in
    let f = g.Q.Queries.formula c.args.queries.now in
    let same = still c.args.trial.now c.rows.trial c.drop_guessed.new.trial c.rows.invariant.trial c.in_ok-drop_guessed.ensures.trial in
    Writes-short s f _ _ _ _ _ _ _ c.from_residual-in_err-found-in-Found.ensures.1
    (drops_then f c.args.trial.now c.drop_guessed.new.trial _ _ _ reach _ _ _ _ same
    (drops_then f c.args.trial.now c.rows.trial _ _ _ reach _ _ _ _ c.rows.invariant.trial (c.rows.invariant.writes reach) (c.in_ok-drop_guessed.ensures.writes reach f))
    (c.in_ok-drop_by-in-Found.ensures.writes reach f))

pub rows-preserved : goal.rows-preserved
rows-preserved g c =
    let f = g.Q.Queries.formula c.args.queries.now in
    let same = still c.args.trial.now c.rows.trial c.drop_guessed.new.trial c.rows.invariant.trial c.in_ok-drop_guessed.ensures.trial in
    record {
      writes = λ reach. drops_then f c.args.trial.now c.drop_guessed.new.trial _ _ _ reach _ _ _ _ same
          (drops_then f c.args.trial.now c.rows.trial _ _ _ reach _ _ _ _ c.rows.invariant.trial (c.rows.invariant.writes reach) (c.in_ok-drop_guessed.ensures.writes reach f))
          (c.in_ok-drop_by-in-Found.ensures.writes reach f);
      kept = c.next_drop.ensures.kept;
      trial = still c.args.trial.now c.drop_guessed.new.trial c.drop_by.new.trial same c.in_ok-drop_by-in-Found.ensures.trial;
    }

pub rows-smaller : goal.rows-smaller
rows-smaller g c =
    let same = still c.args.trial.now c.rows.trial c.drop_guessed.new.trial c.rows.invariant.trial c.in_ok-drop_guessed.ensures.trial in
    let one : size_below (setting_in c.args.trial.now).candidates (members c.drop_guessed.new.set) ≤ size_below (setting_in c.args.trial.now).candidates (members c.rows.set) =
    subst (λ (d : Compared). size_below (setting_in d).candidates (members c.drop_guessed.new.set) ≤ size_below (setting_in d).candidates (members c.rows.set)) c.rows.invariant.trial
    c.in_ok-drop_guessed.ensures.no_more
    in
    let two : size_below (setting_in c.args.trial.now).candidates (members c.drop_by.new.set) < size_below (setting_in c.args.trial.now).candidates (members c.drop_guessed.new.set) =
    subst (λ (d : Compared). size_below (setting_in d).candidates (members c.drop_by.new.set) < size_below (setting_in d).candidates (members c.drop_guessed.new.set)) same
    c.in_ok-drop_by-in-Found.ensures.fewer
    in
    omega (arith, one, two)

pub returns-in-Refuted-clause-greatest : goal.returns-in-Refuted-clause-greatest
returns-in-Refuted-clause-greatest g c reach told st =
    let k = comparison_of c.args.trial.now in
    let f = g.Q.Queries.formula c.args.queries.now in
    let means : (query : QueryData) → IsQueryOf k query → Means k query (f query) = λ query is_query.
    subst (λ (x : Comparison). Means x query (f query)) c.requires.compared (c.laws.ensures.means query (subst (λ (x : Comparison). IsQueryOf x query) (sym c.requires.compared) is_query))
    in
    is_pruned k f c.requires.comparison means _ reach (Kept c.drop_guessed.new.set) ((returns-in-Refuted-clause-writes g c reach told).stands st)

pub returns-in-Spent-clause-greatest : goal.returns-in-Spent-clause-greatest
returns-in-Spent-clause-greatest g c reach told st =
    let k = comparison_of c.args.trial.now in
    let f = g.Q.Queries.formula c.args.queries.now in
    let means : (query : QueryData) → IsQueryOf k query → Means k query (f query) = λ query is_query.
    subst (λ (x : Comparison). Means x query (f query)) c.requires.compared (c.laws.ensures.means query (subst (λ (x : Comparison). IsQueryOf x query) (sym c.requires.compared) is_query))
    in
    is_pruned k f c.requires.comparison means _ reach (Spent c.in_ok-verdict-in-Spent.verdict) ((returns-in-Spent-clause-writes g c reach told).stands st)
