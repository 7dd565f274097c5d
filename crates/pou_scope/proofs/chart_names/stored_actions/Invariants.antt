use Rattle.std.proofs.Common.{◌≡◌, ℕ, List, ◌||◌, drop}
use Rattle.source_tree.specs.SyntaxView.{parts_view}
use Rattle.naming.specs.ChartWords.{is_stored}
use Rattle.naming.specs.TextSets.{has}
use Rattle.pou_scope.proofs.chart_names.stored_actions.Given as goal

abbrev pub invariant-loop-part : goal.invariant-loop-part
invariant-loop-part l = (text : List ℕ) → (has l.stored text || is_stored (parts_view (drop l.part-index l.parts)) text) ≡ is_stored (parts_view l.parts) text
