use Rattle.std.proofs.Common.{sym}
use Rattle.clause_core.proofs.ClosedLists.{ShowsFresh-unit}
use Rattle.clause_core.proofs.freshness.is_unit.Goals as goal

pub returns-in-Unit-clause-fresh : goal.returns-in-Unit-clause-fresh
returns-in-Unit-clause-fresh c = λ held closed _. (c.in-Unit.field-0, c.args.values.now, ShowsFresh-unit held c.args.values.now c.args.literals.now c.in-Unit.field-0 (sym c.in-Unit.ensures.status) closed)
