use Rattle.std.proofs.Common.{◌≡◌, length}
use Rattle.source_tree.specs.SyntaxView.{file_view}
use Rattle.naming.specs.Ends.{Leads}
use Rattle.naming.specs.Types.{step_from, steps}
use Rattle.file_scope.proofs.ends.ends.Given as goal

abbrev pub invariant-loop-doubling : goal.invariant-loop-doubling
invariant-loop-doubling l = record {
  led : Leads l.ends.items (steps l._doubling (step_from (file_view l.names.file.now)));
  len : length l.ends.items ≡ length l.types;
}
