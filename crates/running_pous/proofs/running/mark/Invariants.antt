use Rattle.std.proofs.Common.{take}
use Rattle.call_order.specs.Marks.{GetMarks}
use Rattle.running_pous.proofs.running.mark.Given as goal

abbrev pub invariant-loop-number : goal.invariant-loop-number
invariant-loop-number l = GetMarks (take l.number-index l.numbers) l.initial.marks l.marks l.initial.waiting.items l.waiting.items
