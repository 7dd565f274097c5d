use Rattle.std.proofs.Common.{ap}
use Rattle.finding_lines.specs.declared.line.Line.TheVariants as lines
use Rattle.finding_search.proofs.RowNumbers.{row_at}
use Rattle.finding_search.proofs.Going.{Writes-then, Writes-exit, Writes-short, next_of}
use Rattle.finding_search.proofs.walks.write_rows.Goals as goal

pub row_numbers-requires : goal.row_numbers-requires
row_numbers-requires g c = row_at c.args.rows.now c.loop-row.row-index c.row-item.result c.loop-row-test.true c.row-item.is c.requires

pub returns-in_err-numbers : goal.returns-in_err-numbers
returns-in_err-numbers g c s formula from to runs = Writes-short s formula _ _ _ _ _ _ _ c.from_residual.ensures.1 (c.loop-row.invariant s formula from to runs).2

pub returns-in_err-write_line : goal.returns-in_err-write_line
returns-in_err-write_line g c s formula from to runs =
    let i = c.loop-row.invariant s formula from to runs in
    let n = next_of s formula lines.Walk c.args.rows.now c.loop-row.row-index c.row-item.result (lines.Walk c.in_ok-numbers.numbers) i.0 to c.loop-row-test.true c.row-item.is (ap lines.Walk c.in_ok-numbers.ensures.same) i.1 in
    Writes-exit s formula _ _ _ _ _ _ _ c.from_residual-in_err-write_line.ensures.1 (Writes-then s formula _ _ _ _ _ _ _ _ i.2 (c.in_err-write_line.ensures s formula _ _ n.1))

pub loop-row-preserved : goal.loop-row-preserved
loop-row-preserved g c s formula from to runs =
    let i = c.loop-row.invariant s formula from to runs in
    let n = next_of s formula lines.Walk c.args.rows.now c.loop-row.row-index c.row-item.result (lines.Walk c.in_ok-numbers.numbers) i.0 to c.loop-row-test.true c.row-item.is (ap lines.Walk c.in_ok-numbers.ensures.same) i.1 in
    (n.0, n.2, Writes-then s formula _ _ _ _ _ _ _ _ i.2 (c.in_ok-write_line.ensures s formula _ _ n.1))
