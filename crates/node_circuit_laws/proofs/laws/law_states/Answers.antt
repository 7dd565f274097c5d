use Rattle.node_circuit_laws.proofs.States.{start_state, last_state}
use Rattle.node_circuit_laws.proofs.laws.law_states.Goals as goal

pub returns-clause-starts : goal.returns-clause-starts
returns-clause-starts c = start_state

pub returns-clause-last : goal.returns-clause-last
returns-clause-last c = last_state
