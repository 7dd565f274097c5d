-- Words of a circuit, and operations on them that leave each gate behind its operands.
use Rattle.std.specs.Prelude.{List, All}
use Rattle.clause_core.specs.declared.literal.Lit.{Lit}
use Rattle.gates.specs.Netlists.{Netlist, Made, IsExtensionOf}
use Rattle.gates.specs.Order.{IsOrdered, IsLiteralOf}
use Rattle.word_circuits.specs.Words.{MadeWord}
use Rattle.word_circuits.specs.Sums.{MadeSum}

-- each literal of the word is one of the circuit's
pub record IsWordOf (n : Netlist) (word : List Lit) : Type 0 where
  pub literals : All (IsLiteralOf n) word

-- the circuit begins with the gates of the one before, each gate of it stands after its operands, and the literal is one of its
pub record MakesLiteral (before : Netlist) (made : Made) : Type 0 where
  pub extends : IsExtensionOf before made.net
  pub ordered : IsOrdered made.net
  pub literal : IsLiteralOf made.net made.lit

-- the same of a word
pub record MakesWord (before : Netlist) (made : MadeWord) : Type 0 where
  pub extends : IsExtensionOf before made.net
  pub ordered : IsOrdered made.net
  pub word : IsWordOf made.net made.word

-- the same of a sum and its last carry
pub record MakesSum (before : Netlist) (made : MadeSum) : Type 0 where
  pub extends : IsExtensionOf before made.net
  pub ordered : IsOrdered made.net
  pub word : IsWordOf made.net made.word
  pub carry : IsLiteralOf made.net made.carry
