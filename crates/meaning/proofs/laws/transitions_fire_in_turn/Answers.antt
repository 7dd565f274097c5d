use Rattle.meaning.proofs.InTurn.{fires_in_turn}
use Rattle.meaning.proofs.laws.transitions_fire_in_turn.Goals as goal

pub returns-clause-next : goal.returns-clause-next
returns-clause-next c = fires_in_turn
