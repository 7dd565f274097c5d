use Rattle.gates.proofs.Ordered.{ordered_and, ordered_or, ordered_xor, ordered_mux}
use Rattle.gates.proofs.law.law_order.Goals as goal

pub returns-clause-and : goal.returns-clause-and
returns-clause-and c = ordered_and

pub returns-clause-or : goal.returns-clause-or
returns-clause-or c = ordered_or

pub returns-clause-xor : goal.returns-clause-xor
returns-clause-xor c = ordered_xor

pub returns-clause-mux : goal.returns-clause-mux
returns-clause-mux c = ordered_mux
