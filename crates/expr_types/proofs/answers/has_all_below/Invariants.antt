use Rattle.std.proofs.Common.{◌≡◌, false, drop, replicate}
use Rattle.typing_laws.proofs.Marks.{marked}
use Rattle.expr_types.proofs.answers.has_all_below.Given as goal

abbrev pub invariant-loop-number : goal.invariant-loop-number
invariant-loop-number l = marked l.marks.items (drop l.number-index l.numbers) ≡ marked (replicate l.count false) l.numbers
