use Rattle.finding_lines.proofs.DigitLemmas.{minus-none, minus-wrong}
use Rattle.finding_lines.proofs.digits.take_signed.Goals as goal

pub returns-in_err-magnitude : goal.returns-in_err-magnitude
returns-in_err-magnitude c = rw c.from_residual.ensures (minus-none c.args.bytes.now c.in-Some.digits.now c.in-Some.ensures c.in_err-magnitude.ensures)

pub returns-in_err-number : goal.returns-in_err-number
returns-in_err-number c =
    rw c.from_residual-in_err-number.ensures
    (minus-wrong c.args.bytes.now c.in-Some.digits.now c.in_ok-magnitude.rest.now c.in_ok-magnitude.magnitude c.in-Some.ensures c.in_ok-magnitude.ensures c.in_err-number.ensures)
