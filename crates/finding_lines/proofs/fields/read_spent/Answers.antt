use Rattle.std.proofs.Common.{◌++◌}
use Rattle.std.specs.Prelude.{codes}
use Rattle.finding_lines.specs.Spelling.{asked, spaced}
use Rattle.finding_lines.proofs.ReadLemmas.{spent-number}
use Rattle.finding_lines.proofs.fields.read_spent.Goals as goal

pub returns-in_err-rest : goal.returns-in_err-rest
returns-in_err-rest c = rw c.from_residual.ensures (λ q n fq fn e. c.in_err-rest.ensures (asked q ++ (codes " conflicts" ++ spaced n)) e)

pub returns-in_err-number : goal.returns-in_err-number
returns-in_err-number c =
    rw c.from_residual-in_err-number.ensures
    (spent-number c.args.bytes.now c.in_ok-rest.rest.now c.in_ok-query.more.now c.in_ok-query.query c.in_ok-rest.ensures c.in_ok-query.ensures c.in_err-number.ensures)
