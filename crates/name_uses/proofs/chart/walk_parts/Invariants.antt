use Rattle.std.proofs.Common.{◌≡◌, ◌++◌, drop}
use Rattle.source_tree.specs.SyntaxView.{parts_view}
use Rattle.naming.specs.Broken.{in_chart_parts}
use Rattle.naming.specs.Circles.{calls_in_parts}
use Rattle.pou_scope.specs.NamesView.{file_in, pou_in}
use Rattle.rules.specs.Outcomes.{outcome_of, both}
use Rattle.name_uses.proofs.chart.walk_parts.Given as goal

abbrev pub invariant-loop-part : goal.invariant-loop-part
invariant-loop-part l = record {
  judged :
      both l.outcome (outcome_of (in_chart_parts (file_in l.scope.names) (pou_in l.scope.names) (parts_view (drop l.part-index l.parts))))
      ≡ both l.fn.outcome (outcome_of (in_chart_parts (file_in l.scope.names) (pou_in l.scope.names) (parts_view l.parts)));
  calls :
      l.calls.items ++ calls_in_parts (file_in l.scope.names) (parts_view (drop l.part-index l.parts))
      ≡ l.fn.calls.items ++ calls_in_parts (file_in l.scope.names) (parts_view l.parts);
}
