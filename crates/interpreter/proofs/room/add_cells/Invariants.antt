use Rattle.std.proofs.Common.{◌≡◌, ◌+◌, length}
use Rattle.interpreter.proofs.room.add_cells.Given as goal

abbrev pub invariant-loop : goal.invariant-loop
invariant-loop l = length l.stack.items ≡ length l.initial.stack.items + l.counter
