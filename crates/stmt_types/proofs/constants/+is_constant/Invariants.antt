use Rattle.std.proofs.Common.{◌≡◌, drop}
use Rattle.source_tree.specs.SyntaxView.{links_view}
use Rattle.typing.specs.Constants.{are_constant}
use Rattle.stmt_types.proofs.constants.+is_constant.Given as goal

abbrev pub invariant-are_constant-loop-link : goal.invariant-are_constant-loop-link
invariant-are_constant-loop-link g l =
    are_constant (g.S.Scope.means l.scope) (links_view (drop l.link-index l.links)) ≡ are_constant (g.S.Scope.means l.scope) (links_view l.links)
