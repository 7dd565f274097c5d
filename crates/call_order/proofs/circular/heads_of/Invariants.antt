use Rattle.call_order.specs.Parts.{AreHeads}
use Rattle.call_order.proofs.circular.heads_of.Given as goal

abbrev pub invariant-loop-number : goal.invariant-loop-number
invariant-loop-number l = AreHeads l.parts l.heads l.numbers.items
