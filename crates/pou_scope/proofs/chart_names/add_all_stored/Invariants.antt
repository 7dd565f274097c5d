use Rattle.std.proofs.Common.{◌≡◌, ℕ, List, ◌||◌, drop}
use Rattle.std.specs.List.{list_any}
use Rattle.source_tree.specs.SyntaxView.{step_actions_view}
use Rattle.naming.specs.ChartWords.{stores}
use Rattle.naming.specs.TextSets.{has}
use Rattle.pou_scope.proofs.chart_names.add_all_stored.Given as goal

abbrev pub invariant-loop-action : goal.invariant-loop-action
invariant-loop-action l =
    (text : List ℕ) → (has l.stored text || list_any (stores text) (step_actions_view (drop l.action-index l.actions))) ≡ (has l.fn.stored text || list_any (stores text) (step_actions_view l.actions))
