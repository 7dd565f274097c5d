-- The measure of the POUs that a scope may call.
use Rattle.std.proofs.Common.{ℕ}
use Rattle.program_tree.specs.View.{all_called_view}
use Rattle.interpreter.specs.declared.scope.Scope.{Scope}
use Rattle.meaning.proofs.Sizes.{weight}

abbrev pub weight_here : Scope → ℕ
weight_here scope = weight (all_called_view scope.called.now) scope.below
