use Rattle.std.proofs.Common.{◌≡◌, drop}
use Rattle.typing.specs.Reached.{with_marks}
use Rattle.pou_cells.proofs.reached.mark_all.Given as goal

abbrev pub invariant-loop-number : goal.invariant-loop-number
invariant-loop-number l = with_marks l.marks (drop l.number-index l.numbers) ≡ with_marks l.initial.marks l.numbers
