use Rattle.pair_trial.specs.Trials.{setting_in}
use Rattle.judgement.specs.Places.{finished_by}
use Rattle.finding_search.proofs.Going.{Writes-then, Writes-exit}
use Rattle.finding_search.proofs.Openings.{header_passes}
use Rattle.finding_search.proofs.saving.save_from_top.Goals as goal

pub returns-in_err-write_line-clause-writes : goal.returns-in_err-write_line-clause-writes
returns-in_err-write_line-clause-writes g c =
    let s = setting_in c.args.trial.now in
    let f = g.Q.Queries.formula c.args.queries.now in
    Writes-exit s f _ _ _ _ _ _ _ c.from_residual.ensures.1 (c.in_err-write_line.ensures s f _ _ (header_passes s f))

pub returns-clause-writes : goal.returns-clause-writes
returns-clause-writes g c =
    let s = setting_in c.args.trial.now in
    let f = g.Q.Queries.formula c.args.queries.now in
    Writes-then s f _ _ _ _ _ finished_by _ _ (c.in_ok-write_line.ensures s f _ _ (header_passes s f)) c.save_from_header.ensures.writes
