use Rattle.std.proofs.Common.{Some, sym, ap, ◌∙◌, subst, length, arith}
use Rattle.trace_rows.specs.Reading.{row_read, IsAdded}
use Rattle.trace_rows.proofs.ReadLemmas.{one_more_read, rows_refused, rows_closed}
use Rattle.trace_rows.proofs.read.read_rows.Goals as goal

pub returns-then-not-branch : goal.returns-then-not-branch
returns-then-not-branch c =
    let l = c.loop-reader in
    let going = c.loop-reader-test.ensures in
    rows_refused c.args.width l.count c.args.reader.now l.reader l.numbers.items l.invariant going.0
    (ap (row_read c.args.width) (sym going.1) ∙ rw c.if-not-branch.true at c.in_ok-read_row.ensures.value)

pub loop-reader-preserved : goal.loop-reader-preserved
loop-reader-preserved c =
    let l = c.loop-reader in
    let going = c.loop-reader-test.ensures in
    let row = rw c.if-not-branch.false at c.in_ok-read_row.ensures.value in
    let shorter = rw c.if-not-branch.false at c.in_ok-read_row.ensures.shorter in
    let wide = rw c.if-not-branch.false at c.in_ok-read_row.ensures.wide in
    one_more_read c.args.width l.count c.args.reader.now l.reader c.read_row.new.reader l.numbers.items c.read_row.new.numbers.items l.invariant going.0
    (subst (λ ts. IsAdded (row_read c.args.width ts) l.numbers.items c.read_row.new.numbers.items c.read_row.new.reader) going.1 row) (omega (arith, ap length going.1, shorter)) wide

pub returns : goal.returns
returns c =
    let l = c.loop-reader in
    rows_closed c.args.width l.count c.args.reader.now l.reader c.take_end_array.new.self l.numbers.items l.invariant c.loop-reader-test.ensures ∙ ap (λ rows. Some (rows, c.take_end_array.new.self)) (sym c.new.ensures)
