use Rattle.std.proofs.Common.{sym, subst, List}
use Rattle.clause_core.specs.declared.log.Entry.{Entry}
use Rattle.judgement.specs.Steps.{opened}
use Rattle.judgement.specs.Places.{in_log}
use Rattle.finding_search.specs.Passing.{Runs}
use Rattle.finding_search.specs.Shown.{lines_of}
use Rattle.finding_search.proofs.Going.{Writes-then, Writes-exit}
use Rattle.finding_search.proofs.LogRuns.{refutation_runs}
use Rattle.finding_search.proofs.logs.write_refutation.Goals as goal

pub returns-in_err-write_line : goal.returns-in_err-write_line
returns-in_err-write_line g c s formula f limit from behind told passes refutes =
    Writes-exit s formula _ _ _ _ _ _ _ c.from_residual.ensures.1 (c.in_err-write_line.ensures s formula from _ passes)

pub returns : goal.returns
returns g c s formula f limit from behind told passes refutes =
    Writes-then s formula _ _ _ _ _ _ _ _ (c.in_ok-write_line.ensures s formula from _ passes)
    (c.write_steps.ensures s formula _ behind
    (subst (λ (log : List Entry). Runs s formula (in_log (opened f) behind) (lines_of log) behind) (sym c.entries.ensures) (refutation_runs s formula f limit c.args.log.now behind told refutes)))
