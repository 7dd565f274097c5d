use Rattle.std.proofs.Common.{◌≡◌, ◌<◌, ℕ, get_or, length}
use Rattle.source_tree.specs.SyntaxView.{file_view}
use Rattle.naming.specs.Types.{step_from}
use Rattle.file_scope.proofs.ends.first_steps.Given as goal

abbrev pub invariant-loop-place : goal.invariant-loop-place
invariant-loop-place l = record {
  led : (t : ℕ) → t < l.place → get_or l.ends.items t t ≡ step_from (file_view l.names.file.now) t;
  len : length l.ends.items ≡ l.place;
}
