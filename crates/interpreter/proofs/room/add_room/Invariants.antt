use Rattle.std.proofs.Common.{◌≡◌, ◌+◌, length}
use Rattle.program_tree.specs.View.{all_called_view}
use Rattle.meaning.specs.Room.{room_for}
use Rattle.interpreter.proofs.room.add_room.Given as goal

abbrev pub invariant-loop-callee : goal.invariant-loop-callee
invariant-loop-callee l = length l.stack.items ≡ length l.initial.stack.items + room_for (all_called_view l.called) l.callee-index
