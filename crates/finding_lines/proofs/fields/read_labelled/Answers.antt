use Rattle.finding_lines.proofs.ReadLemmas.{alone-first, alone-more, some-left}
use Rattle.finding_lines.proofs.fields.read_labelled.Goals as goal

pub returns-in_err-number : goal.returns-in_err-number
returns-in_err-number c = rw c.from_residual.ensures (alone-first c.args.bytes.now c.args.label.now c.in_err-number.ensures)

pub returns-else-is_empty : goal.returns-else-is_empty
returns-else-is_empty c =
    let taken = c.in_ok-number.ensures in
    alone-more c.args.bytes.now c.args.label.now c.in_ok-number.rest.now c.in_ok-number.number taken.2 taken.0 taken.1
    (some-left c.in_ok-number.rest.now c.is_empty.result c.is_empty.ensures c.if-is_empty.false)
