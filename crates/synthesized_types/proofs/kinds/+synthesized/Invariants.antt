use Rattle.std.proofs.Common.{◌≡◌, drop}
use Rattle.source_tree.specs.SyntaxView.{links_view, arguments_view}
use Rattle.typing.specs.Typing.{synthesized_of_links, synthesized_of_arguments}
use Rattle.synthesized_types.proofs.kinds.+synthesized.Given as goal

abbrev pub invariant-synthesized_of_links-loop-link : goal.invariant-synthesized_of_links-loop-link
invariant-synthesized_of_links-loop-link g l =
    synthesized_of_links (g.S.Scope.means l.scope) (links_view (drop l.link-index l.links)) ≡ synthesized_of_links (g.S.Scope.means l.scope) (links_view l.links)

abbrev pub invariant-synthesized_of_arguments-loop-place : goal.invariant-synthesized_of_arguments-loop-place
invariant-synthesized_of_arguments-loop-place g l =
    synthesized_of_arguments (g.S.Scope.means l.scope) l.function l.place (arguments_view (drop l.place l.arguments)) ≡ synthesized_of_arguments (g.S.Scope.means l.scope) l.function 0 (arguments_view l.arguments)
