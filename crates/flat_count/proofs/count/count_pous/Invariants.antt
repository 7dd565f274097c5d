use Rattle.std.proofs.Common.{◌≡◌, length}
use Rattle.program_tree.specs.View.{all_called_view}
use Rattle.flat_count.proofs.CountLemmas.{CountFirst}
use Rattle.flat_count.proofs.count.count_pous.Given as goal

-- the POUs so far are counted
abbrev pub invariant-loop-callee : goal.invariant-loop-callee
invariant-loop-callee l = record {
  long_runs : length l.runs.items ≡ l.callee-index;
  long_bodies : length l.bodies.items ≡ l.callee-index;
  first : CountFirst l.runs.items l.bodies.items (all_called_view l.called) l.callee-index;
}
