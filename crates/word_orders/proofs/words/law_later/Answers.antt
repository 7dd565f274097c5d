use Rattle.word_orders.proofs.Literals.{IsLiteralOf-later, IsWordOf-later}
use Rattle.word_orders.proofs.words.law_later.Goals as goal

pub returns-clause-literal : goal.returns-clause-literal
returns-clause-literal c = IsLiteralOf-later

pub returns-clause-word : goal.returns-clause-word
returns-clause-word c = IsWordOf-later
