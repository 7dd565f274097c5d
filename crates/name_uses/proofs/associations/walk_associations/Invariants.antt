use Rattle.std.proofs.Common.{◌≡◌, drop}
use Rattle.source_tree.specs.SyntaxView.{step_actions_view}
use Rattle.naming.specs.Broken.{in_associations}
use Rattle.pou_scope.specs.NamesView.{file_in, pou_in}
use Rattle.rules.specs.Outcomes.{outcome_of, both}
use Rattle.name_uses.proofs.associations.walk_associations.Given as goal

abbrev pub invariant-loop-action : goal.invariant-loop-action
invariant-loop-action l =
    both l.outcome (outcome_of (in_associations (file_in l.scope.names) (pou_in l.scope.names) (step_actions_view (drop l.action-index l.actions))))
    ≡ both l.fn.outcome (outcome_of (in_associations (file_in l.scope.names) (pou_in l.scope.names) (step_actions_view l.actions)))
