use Rattle.finding_lines.proofs.ReadLemmas.{labelled-none}
use Rattle.finding_lines.proofs.fields.take_labelled.Goals as goal

pub returns-in_err-number : goal.returns-in_err-number
returns-in_err-number c =
    rw c.from_residual-in_err-number.ensures
    (labelled-none c.args.bytes.now c.args.label.now c.in_ok-rest.rest.now c.in_ok-rest.ensures c.in_err-number.ensures)
