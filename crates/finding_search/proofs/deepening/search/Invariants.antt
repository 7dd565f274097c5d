use Rattle.std.specs.Prelude.{◌≢◌, Ok, Result}
use Rattle.finding_file.specs.declared.errors.WriteErr.{WriteErr}
use Rattle.queries.specs.Sets.{members}
use Rattle.pair_trial.specs.Trials.{setting_in}
use Rattle.judgement.specs.Places.{at_deep}
use Rattle.judgement.specs.Tests.{after_deep}
use Rattle.judgement.specs.declared.answers.Reach.{Reach}
use Rattle.judgement.specs.declared.answers.Reach.TheVariants.{Untold}
use Rattle.finding_search.specs.Desks.{desk}
use Rattle.finding_search.specs.Writes.{Writes}
use Rattle.finding_search.proofs.deepening.search.Given as goal

abbrev pub invariant-depths : goal.invariant-depths
invariant-depths g l =
    (reach : Reach) → reach ≢ Untold → Writes (setting_in l.trial) (g.Q.Queries.formula l.queries)
    (desk (g.S.Shelf.state l.initial.shelf) l.initial.writer) (at_deep reach (members l.set) 0)
    (desk (g.S.Shelf.state l.shelf) l.writer) (λ (x : Unit {0}). after_deep (setting_in l.trial) reach (members l.set) l.none)
    (let r : Result (Unit {0}) WriteErr = Ok tt in r)
