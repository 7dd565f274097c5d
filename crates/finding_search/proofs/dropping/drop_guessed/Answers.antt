use Rattle.std.proofs.Common.{◌<◌, refl, sym, subst, arith}
use Rattle.scan_model.specs.Verdicts.{size_below}
use Rattle.scan_replay.specs.Duos.{Compared}
use Rattle.queries.specs.Comparisons.{IsComparison}
use Rattle.queries.specs.Questions.{step}
use Rattle.queries.specs.Meaning.{Answers}
use Rattle.queries.specs.Sets.{members}
use Rattle.pair_trial.specs.Trials.{comparison_of, setting_in}
use Rattle.judgement.specs.Places.{at_drops}
use Rattle.invariant_prune.specs.Answers.{pair_of}
use Rattle.finding_search.proofs.Going.{Writes-exit, Writes-short, Writes-nothing}
use Rattle.finding_search.proofs.DropLemmas.{drops_then, still}
use Rattle.finding_search.proofs.dropping.drop_guessed.Goals as goal

pub tries-init : goal.tries-init
tries-init g c = record {
  writes = λ reach formula. Writes-nothing (setting_in c.args.trial.now) formula _ (λ (x : Unit {0}). at_drops reach (members c.args.set.now)) tt;
  no_more = omega arith;
  trial = refl;
}

pub returns-in_err-guess-clause-writes : goal.returns-in_err-guess-clause-writes
returns-in_err-guess-clause-writes g c reach formula =
    Writes-short (setting_in c.args.trial.now) formula _ _ _ _ _ _ _ c.from_residual.ensures.1 (c.tries.invariant.writes reach formula)

pub drops-requires : goal.drops-requires
drops-requires g c = subst (λ (d : Compared). IsComparison (comparison_of d)) (sym c.tries.invariant.trial) c.requires.comparison

pub drop_by-requires-clause-comparison : goal.drop_by-requires-clause-comparison
drop_by-requires-clause-comparison g c =
    let same = still c.args.trial.now c.tries.trial c.drops.new.trial c.tries.invariant.trial c.drops.ensures.trial in
    subst (λ (d : Compared). IsComparison (comparison_of d)) (sym same) c.requires.comparison

pub drop_by-requires-clause-found : goal.drop_by-requires-clause-found
drop_by-requires-clause-found g c =
    subst (λ (d : Compared). Answers (comparison_of d) (step (members c.tries.set)) (pair_of c.in-Some.guess) c.in-Some.guess.rows.items) (sym c.drops.ensures.trial)
    (c.drops.ensures.answers.0 c.if-not-drops.false)

pub returns-in_err-drop_by-clause-writes : goal.returns-in_err-drop_by-clause-writes
returns-in_err-drop_by-clause-writes g c reach formula =
    let same = still c.args.trial.now c.tries.trial c.drops.new.trial c.tries.invariant.trial c.drops.ensures.trial in
    Writes-exit (setting_in c.args.trial.now) formula _ _ _ _ _ _ _ c.from_residual-in_err-drop_by.ensures.1
    (drops_then formula c.args.trial.now c.drops.new.trial _ _ _ reach _ _ _ _ same (c.tries.invariant.writes reach formula) (c.in_err-drop_by.ensures.writes reach formula))

pub tries-preserved : goal.tries-preserved
tries-preserved g c =
    let same = still c.args.trial.now c.tries.trial c.drops.new.trial c.tries.invariant.trial c.drops.ensures.trial in
    let fewer : size_below (setting_in c.args.trial.now).candidates (members c.drop_by.new.set) < size_below (setting_in c.args.trial.now).candidates (members c.tries.set) =
    subst (λ (d : Compared). size_below (setting_in d).candidates (members c.drop_by.new.set) < size_below (setting_in d).candidates (members c.tries.set)) same c.in_ok-drop_by.ensures.fewer
    in
    record {
      writes = λ reach formula. drops_then formula c.args.trial.now c.drops.new.trial _ _ _ reach _ _ _ _ same (c.tries.invariant.writes reach formula) (c.in_ok-drop_by.ensures.writes reach formula);
      no_more = omega (arith, fewer, c.tries.invariant.no_more);
      trial = still c.args.trial.now c.drops.new.trial c.drop_by.new.trial same c.in_ok-drop_by.ensures.trial;
    }

pub tries-smaller : goal.tries-smaller
tries-smaller g c =
    let same = still c.args.trial.now c.tries.trial c.drops.new.trial c.tries.invariant.trial c.drops.ensures.trial in
    subst (λ (d : Compared). size_below (setting_in d).candidates (members c.drop_by.new.set) < size_below (setting_in d).candidates (members c.tries.set)) same c.in_ok-drop_by.ensures.fewer
