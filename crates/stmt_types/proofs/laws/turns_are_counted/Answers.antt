use Rattle.typing_laws.proofs.TurnLaws.{counted as all_turns, too_many as more_turns}
use Rattle.stmt_types.proofs.laws.turns_are_counted.Goals as goal

pub returns : goal.returns
returns c = record { counted = all_turns; too_many = more_turns }
