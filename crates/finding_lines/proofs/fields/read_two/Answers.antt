use Rattle.finding_lines.proofs.ReadLemmas.{two-second}
use Rattle.finding_lines.proofs.fields.read_two.Goals as goal

pub returns-in_err-two : goal.returns-in_err-two
returns-in_err-two c =
    let taken = c.in_ok-one.ensures in
    rw c.from_residual-in_err-two.ensures
    (two-second c.args.bytes.now c.args.first.now c.args.second.now c.in_ok-one.rest.now c.in_ok-one.one c.requires taken.2 taken.0 taken.1 c.in_err-two.ensures)
