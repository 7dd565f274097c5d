use Rattle.std.proofs.Common.{◌≡◌, ◌++◌, drop}
use Rattle.source_tree.specs.SyntaxView.{links_view, arguments_view}
use Rattle.naming.specs.Broken.{in_links, in_arguments}
use Rattle.naming.specs.Circles.{calls_in_links, calls_in_arguments}
use Rattle.pou_scope.specs.NamesView.{file_in, pou_in}
use Rattle.rules.specs.Outcomes.{outcome_of, both}
use Rattle.name_uses.proofs.walk.+walk_expr.Given as goal

abbrev pub invariant-walk_links-loop-link : goal.invariant-walk_links-loop-link
invariant-walk_links-loop-link l = record {
  judged :
      both l.outcome (outcome_of (in_links (file_in l.scope.names) (pou_in l.scope.names) (links_view (drop l.link-index l.links))))
      ≡ both l.fn.outcome (outcome_of (in_links (file_in l.scope.names) (pou_in l.scope.names) (links_view l.links)));
  calls :
      l.calls.items ++ calls_in_links (file_in l.scope.names) (links_view (drop l.link-index l.links))
      ≡ l.fn.calls.items ++ calls_in_links (file_in l.scope.names) (links_view l.links);
}

abbrev pub invariant-walk_arguments-loop-argument : goal.invariant-walk_arguments-loop-argument
invariant-walk_arguments-loop-argument l = record {
  judged :
      both l.outcome (outcome_of (in_arguments (file_in l.scope.names) (pou_in l.scope.names) l.callee (arguments_view (drop l.argument-index l.arguments))))
      ≡ both l.fn.outcome (outcome_of (in_arguments (file_in l.scope.names) (pou_in l.scope.names) l.callee (arguments_view l.arguments)));
  calls :
      l.calls.items ++ calls_in_arguments (file_in l.scope.names) (arguments_view (drop l.argument-index l.arguments))
      ≡ l.fn.calls.items ++ calls_in_arguments (file_in l.scope.names) (arguments_view l.arguments);
}
