use Rattle.word_orders.proofs.Divisions.{makes_division}
use Rattle.word_orders.proofs.operations.law_division.Goals as goal

pub returns : goal.returns
returns c = makes_division
