use Rattle.node_laws.proofs.TypedScans.{typed_scans, typed_clauses}
use Rattle.node_laws.proofs.laws.nodes_are_typed.Goals as goal

pub returns-clause-scans : goal.returns-clause-scans
returns-clause-scans c = typed_scans

pub returns-clause-clauses : goal.returns-clause-clauses
returns-clause-clauses c = typed_clauses
