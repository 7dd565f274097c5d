use Rattle.word_laws.proofs.Orders.{Compares-any}
use Rattle.word_laws.proofs.bits.law_any.Goals as goal

pub returns : goal.returns
returns c = λ v a n m. (Compares-any v a n m).value
