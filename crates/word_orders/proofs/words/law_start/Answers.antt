use Rattle.word_orders.proofs.Literals.{IsOrdered-empty, IsLiteralOf-variable}
use Rattle.word_orders.proofs.words.law_start.Goals as goal

pub returns-clause-ordered : goal.returns-clause-ordered
returns-clause-ordered c = IsOrdered-empty

pub returns-clause-literal : goal.returns-clause-literal
returns-clause-literal c = IsLiteralOf-variable
