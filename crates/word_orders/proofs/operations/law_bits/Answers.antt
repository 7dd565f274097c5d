use Rattle.word_orders.proofs.Choices.{makes_bit, makes_bitwise, makes_any}
use Rattle.word_orders.proofs.operations.law_bits.Goals as goal

pub returns-clause-bit : goal.returns-clause-bit
returns-clause-bit c = makes_bit

pub returns-clause-bitwise : goal.returns-clause-bitwise
returns-clause-bitwise c = makes_bitwise

pub returns-clause-any : goal.returns-clause-any
returns-clause-any c = makes_any
