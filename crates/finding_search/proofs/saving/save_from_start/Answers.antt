use Rattle.std.proofs.Common.{refl, subst}
use Rattle.scan_replay.specs.Duos.{Compared}
use Rattle.queries.specs.Sets.{members}
use Rattle.pair_trial.specs.Trials.{setting_in}
use Rattle.judgement.specs.Places.{at_kept, finished}
use Rattle.finding_search.specs.Desks.{desk}
use Rattle.finding_search.specs.Places.{place_of}
use Rattle.finding_search.specs.Writes.{Writes}
use Rattle.finding_search.specs.declared.dropping.Pruned.TheVariants.{Kept, Spent}
use Rattle.finding_search.proofs.Going.{Writes-then, Writes-exit, Writes-answer}
use Rattle.finding_search.proofs.DropLemmas.{starts_from}
use Rattle.finding_search.proofs.saving.save_from_start.Goals as goal

pub returns-in_err-set-2 : goal.returns-in_err-set-2
returns-in_err-set-2 g c reach told =
    let trial = c.first_set.new.trial in
    let f = g.Q.Queries.formula c.args.queries.now in
    starts_from f c.args.trial.now trial _ _ reach (members c.in_ok-set.set) _ _ c.first_set.ensures.at_start c.in_ok-set.ensures.set
    (Writes-exit (setting_in trial) f _ _ _ _ _ _ _ c.from_residual-in_err-set-2.ensures.1 (c.in_err-set-2.ensures.writes reach told))

pub returns-in-Kept : goal.returns-in-Kept
returns-in-Kept g c reach told =
    let trial = c.first_set.new.trial in
    let f = g.Q.Queries.formula c.args.queries.now in
    let before = rw c.in-Kept.is at (c.in_ok-set-2.ensures.writes reach told) in
    starts_from f c.args.trial.now trial _ _ reach (members c.in_ok-set.set) _ _ c.first_set.ensures.at_start c.in_ok-set.ensures.set
    (Writes-then (setting_in trial) f _ _ _ _ (place_of reach) (finished reach) (Kept c.in-Kept.set) _ before
    (subst (λ (d : Compared). Writes (setting_in d) f (desk (g.S.Shelf.state c.prune.new.shelf) c.prune.new.writer) (at_kept reach (members c.in-Kept.set))
    (desk (g.S.Shelf.state c.save_from_kept.new.shelf) c.save_from_kept.new.writer) (finished reach) c.save_from_kept.result) c.prune.ensures.trial (c.save_from_kept.ensures reach told)))

pub returns : goal.returns
returns g c reach told =
    let trial = c.first_set.new.trial in
    let f = g.Q.Queries.formula c.args.queries.now in
    let before = rw c.in-Spent.is at (c.in_ok-set-2.ensures.writes reach told) in
    starts_from f c.args.trial.now trial _ _ reach (members c.in_ok-set.set) _ _ c.first_set.ensures.at_start c.in_ok-set.ensures.set
    (Writes-answer (setting_in trial) f _ _ _ (place_of reach) (Spent c.in-Spent.verdict) (finished reach) c.in-Spent.verdict refl before)
