use Rattle.node_laws.proofs.MeantScans.{meant_scans, meant_clauses}
use Rattle.node_laws.proofs.laws.nodes_have_meaning.Goals as goal

pub returns-clause-scans : goal.returns-clause-scans
returns-clause-scans c = meant_scans

pub returns-clause-clauses : goal.returns-clause-clauses
returns-clause-clauses c = meant_clauses
