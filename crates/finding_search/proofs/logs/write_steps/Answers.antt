use Rattle.finding_search.specs.Shown.{line_of}
use Rattle.finding_search.proofs.Going.{Writes-then, Writes-exit, Writes-short, next_of}
use Rattle.finding_search.proofs.logs.write_steps.Goals as goal

pub returns-in_err-line : goal.returns-in_err-line
returns-in_err-line g c s formula from to runs = Writes-short s formula _ _ _ _ _ _ _ c.from_residual.ensures.1 (c.loop-entry.invariant s formula from to runs).2

pub returns-in_err-write_line : goal.returns-in_err-write_line
returns-in_err-write_line g c s formula from to runs =
    let i = c.loop-entry.invariant s formula from to runs in
    let n = next_of s formula line_of c.args.entries.now c.loop-entry.entry-index c.entry-item.result c.in_ok-line.line i.0 to c.loop-entry-test.true c.entry-item.is c.in_ok-line.ensures.same i.1 in
    Writes-exit s formula _ _ _ _ _ _ _ c.from_residual-in_err-write_line.ensures.1 (Writes-then s formula _ _ _ _ _ _ _ _ i.2 (c.in_err-write_line.ensures s formula _ _ n.1))

pub loop-entry-preserved : goal.loop-entry-preserved
loop-entry-preserved g c s formula from to runs =
    let i = c.loop-entry.invariant s formula from to runs in
    let n = next_of s formula line_of c.args.entries.now c.loop-entry.entry-index c.entry-item.result c.in_ok-line.line i.0 to c.loop-entry-test.true c.entry-item.is c.in_ok-line.ensures.same i.1 in
    (n.0, n.2, Writes-then s formula _ _ _ _ _ _ _ _ i.2 (c.in_ok-write_line.ensures s formula _ _ n.1))
