use Rattle.std.proofs.Common.{◌≡◌, length}
use Rattle.program_tree.specs.View.{all_called_view}
use Rattle.flat_form.proofs.IdleTables.{AreFirst}
use Rattle.flat_form.proofs.idle.idle_blocks.Given as goal

-- the table so far is that of the first POUs
abbrev pub invariant-loop-callee : goal.invariant-loop-callee
invariant-loop-callee l = record {
  long : length l.idle.items ≡ l.callee-index;
  first : AreFirst l.idle.items (all_called_view l.called) l.callee-index;
}
