use Rattle.std.proofs.Common.{◌≡◌, ◌≤◌}
use Rattle.std.specs.Prelude.{Ok, Result}
use Rattle.clause_core.specs.Formula.{Formula}
use Rattle.finding_file.specs.declared.errors.WriteErr.{WriteErr}
use Rattle.scan_model.specs.Verdicts.{size_below}
use Rattle.scan_replay.specs.Duos.{with_pair}
use Rattle.queries.specs.Questions.{QueryData}
use Rattle.queries.specs.Sets.{members}
use Rattle.pair_trial.specs.Trials.{setting_in}
use Rattle.judgement.specs.Places.{at_drops}
use Rattle.judgement.specs.declared.answers.Reach.{Reach}
use Rattle.finding_search.specs.Desks.{desk}
use Rattle.finding_search.specs.Writes.{Writes}
use Rattle.finding_search.proofs.dropping.drop_guessed.Given as goal

abbrev pub invariant-tries : goal.invariant-tries
invariant-tries g l = record {
  writes : (reach : Reach) (formula : QueryData → Formula) → Writes (setting_in l.initial.trial) formula
      (desk (g.S.Shelf.state l.initial.shelf) l.initial.writer) (at_drops reach (members l.initial.set))
      (desk (g.S.Shelf.state l.shelf) l.writer) (λ (x : Unit {0}). at_drops reach (members l.set)) (let r : Result (Unit {0}) WriteErr = Ok tt in r);
  no_more : size_below (setting_in l.initial.trial).candidates (members l.set) ≤ size_below (setting_in l.initial.trial).candidates (members l.initial.set);
  trial : l.trial ≡ with_pair l.trial.pair l.initial.trial;
}

abbrev pub decreases-tries : goal.decreases-tries
decreases-tries g l = size_below (setting_in l.initial.trial).candidates (members l.set)
