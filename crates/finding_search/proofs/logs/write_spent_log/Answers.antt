use Rattle.std.proofs.Common.{sym, subst, List}
use Rattle.clause_core.specs.declared.log.Entry.{Entry}
use Rattle.finding_search.specs.Passing.{Runs}
use Rattle.finding_search.specs.Shown.{lines_of}
use Rattle.finding_search.proofs.Going.{Writes-then, Writes-exit}
use Rattle.finding_search.proofs.logs.write_spent_log.Goals as goal

pub returns-in_err-write_line : goal.returns-in_err-write_line
returns-in_err-write_line g c s formula from inside to passes runs =
    Writes-exit s formula _ _ _ _ _ _ _ c.from_residual.ensures.1 (c.in_err-write_line.ensures s formula from _ passes)

pub returns : goal.returns
returns g c s formula from inside to passes runs =
    Writes-then s formula _ _ _ _ _ _ _ _ (c.in_ok-write_line.ensures s formula from _ passes)
    (c.write_steps.ensures s formula _ _ (subst (λ (log : List Entry). Runs s formula inside (lines_of log) to) (sym c.entries.ensures) runs))
