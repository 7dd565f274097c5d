use Rattle.word_laws.proofs.Orders.{Compares-zero}
use Rattle.word_laws.proofs.comparisons.law_is_zero.Goals as goal

pub returns : goal.returns
returns c = λ v a n m. (Compares-zero v a n m).value
