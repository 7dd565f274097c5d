use Rattle.std.proofs.Common.{◌≡◌, drop}
use Rattle.rules.specs.Rules.{earlier, first_in}
use Rattle.source_tree.specs.SyntaxView.{links_view, arguments_view}
use Rattle.relation_file.specs.Clauses.{broken_links, broken_arguments}
use Rattle.relation_file.proofs.names.+walk_names.Given as goal

abbrev pub invariant-walk_links-loop-link : goal.invariant-walk_links-loop-link
invariant-walk_links-loop-link g l =
    earlier l.first (first_in (broken_links (g.S.Scope.means l.scope) (links_view (drop l.link-index l.links)))) ≡ earlier l.fn.first (first_in (broken_links (g.S.Scope.means l.scope) (links_view l.links)))

abbrev pub invariant-walk_arguments-loop-argument : goal.invariant-walk_arguments-loop-argument
invariant-walk_arguments-loop-argument g l =
    earlier l.first (first_in (broken_arguments (g.S.Scope.means l.scope) l.known (arguments_view (drop l.argument-index l.arguments))))
    ≡ earlier l.fn.first (first_in (broken_arguments (g.S.Scope.means l.scope) l.known (arguments_view l.arguments)))
