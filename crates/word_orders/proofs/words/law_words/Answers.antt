use Rattle.word_orders.proofs.Literals.{IsWordOf-zeros, IsWordOf-constant, IsWordOf-not, IsLiteralOf-top, IsWordOf-shl, IsWordOf-shr, IsWordOf-rol, IsWordOf-ror, IsWordOf-resized}
use Rattle.word_orders.proofs.words.law_words.Goals as goal

pub returns-clause-zeros : goal.returns-clause-zeros
returns-clause-zeros c = IsWordOf-zeros

pub returns-clause-constant : goal.returns-clause-constant
returns-clause-constant c = IsWordOf-constant

pub returns-clause-not : goal.returns-clause-not
returns-clause-not c = IsWordOf-not

pub returns-clause-top : goal.returns-clause-top
returns-clause-top c = IsLiteralOf-top

pub returns-clause-shl : goal.returns-clause-shl
returns-clause-shl c = IsWordOf-shl

pub returns-clause-shr : goal.returns-clause-shr
returns-clause-shr c = IsWordOf-shr

pub returns-clause-rol : goal.returns-clause-rol
returns-clause-rol c = IsWordOf-rol

pub returns-clause-ror : goal.returns-clause-ror
returns-clause-ror c = IsWordOf-ror

pub returns-clause-resized : goal.returns-clause-resized
returns-clause-resized c = IsWordOf-resized
