use Rattle.std.proofs.Common.{◌≡◌, ◌++◌, drop}
use Rattle.source_tree.specs.SyntaxView.{arguments_view}
use Rattle.typing.specs.Judged.{places_for}
use Rattle.expr_types.proofs.answers.places_for.Given as goal

abbrev pub invariant-loop-place : goal.invariant-loop-place
invariant-loop-place g l =
    l.places.items ++ places_for (g.S.Scope.means l.scope) l.signature l.place (arguments_view (drop l.place l.arguments)) ≡ places_for (g.S.Scope.means l.scope) l.signature 0 (arguments_view l.arguments)
