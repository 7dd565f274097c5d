use Rattle.std.proofs.Common.{◌≡◌}
use Rattle.std.specs.Prelude.{Ok, Result}
use Rattle.finding_file.specs.declared.errors.WriteErr.{WriteErr}
use Rattle.scan_model.specs.Verdicts.{size_below}
use Rattle.scan_replay.specs.Duos.{with_pair}
use Rattle.queries.specs.Sets.{members}
use Rattle.pair_trial.specs.Trials.{setting_in}
use Rattle.invariant_prune.specs.Kept.{IsKept}
use Rattle.judgement.specs.Places.{at_drops}
use Rattle.judgement.specs.declared.answers.Reach.{Reach}
use Rattle.finding_search.specs.Desks.{desk}
use Rattle.finding_search.specs.Writes.{Writes}
use Rattle.finding_search.proofs.dropping.prune.Given as goal

abbrev pub invariant-rows : goal.invariant-rows
invariant-rows g l = record {
  writes : (reach : Reach) → Writes (setting_in l.initial.trial) (g.Q.Queries.formula l.queries)
      (desk (g.S.Shelf.state l.initial.shelf) l.initial.writer) (at_drops reach (members l.initial.set))
      (desk (g.S.Shelf.state l.shelf) l.writer) (λ (x : Unit {0}). at_drops reach (members l.set)) (let r : Result (Unit {0}) WriteErr = Ok tt in r);
  kept : IsKept (g.Q.Queries.front l.queries) l.kept;
  trial : l.trial ≡ with_pair l.trial.pair l.initial.trial;
}

abbrev pub decreases-rows : goal.decreases-rows
decreases-rows g l = size_below (setting_in l.initial.trial).candidates (members l.set)
