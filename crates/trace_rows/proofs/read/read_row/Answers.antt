use Rattle.std.proofs.Common.{◌≡◌, ◌-◌, length, ap₂, ◌∙◌}
use Rattle.trace_rows.proofs.ReadLemmas.{no_row, no_numbers, row_met}
use Rattle.trace_rows.proofs.read.read_row.Goals as goal

pub returns-then-not-begin_array-clause-value : goal.returns-then-not-begin_array-clause-value
returns-then-not-begin_array-clause-value c = no_row c.args.width c.args.reader.now c.if-not-begin_array.ensures

pub returns-then-not-branch-clause-value : goal.returns-then-not-branch-clause-value
returns-then-not-branch-clause-value c =
    no_numbers c.args.width c.args.reader.now c.begin_array.new.reader c.if-not-begin_array.ensures (rw c.if-not-branch.true at c.in_ok-read_numbers.ensures.value)

pub returns-clause-value : goal.returns-clause-value
returns-clause-value c =
    let now = c.read_numbers.new.numbers in
    let before = c.args.numbers.now in
    let count : c.len.result - c.len-before.result ≡ length now.items - length before.items = ap₂ (λ a b. a - b) (c.len.ensures ∙ now.ok.0) (c.len-before.ensures ∙ before.ok.0) in
    row_met c.args.width c.args.reader.now c.begin_array.new.reader c.read_numbers.new.reader before.items now.items (c.len.result - c.len-before.result)
    c.if-not-begin_array.ensures (rw c.if-not-branch.false at c.in_ok-read_numbers.ensures.value) count
