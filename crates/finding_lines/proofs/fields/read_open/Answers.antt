use Rattle.finding_lines.proofs.ReadLemmas.{open-first, open-others}
use Rattle.finding_lines.proofs.fields.read_open.Goals as goal

pub returns-in_err-kept : goal.returns-in_err-kept
returns-in_err-kept c = rw c.from_residual.ensures (open-first c.args.bytes.now c.in_err-kept.ensures)

pub returns-in_err-candidates : goal.returns-in_err-candidates
returns-in_err-candidates c =
    let taken = c.in_ok-kept.ensures in
    rw c.from_residual-in_err-candidates.ensures
    (open-others c.args.bytes.now c.in_ok-kept.rest.now c.in_ok-kept.kept taken.2 taken.0 taken.1 c.in_err-candidates.ensures)
