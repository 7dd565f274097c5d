use Rattle.std.proofs.Common.{◌≡◌, drop}
use Rattle.source_tree.specs.SyntaxView.{labels_view}
use Rattle.naming.specs.Broken.{in_labels}
use Rattle.pou_scope.specs.NamesView.{file_in, pou_in}
use Rattle.rules.specs.Outcomes.{outcome_of, both}
use Rattle.name_uses.proofs.walk.walk_labels.Given as goal

abbrev pub invariant-loop-label : goal.invariant-loop-label
invariant-loop-label l =
    both l.outcome (outcome_of (in_labels (file_in l.scope.names) (pou_in l.scope.names) (labels_view (drop l.label-index l.labels))))
    ≡ both l.fn.outcome (outcome_of (in_labels (file_in l.scope.names) (pou_in l.scope.names) (labels_view l.labels)))
