use Rattle.std.proofs.Common.{◌≡◌, List, drop}
use Rattle.plc_types.specs.declared.range.Range.{Range}
use Rattle.source_tree.specs.SyntaxView.{labels_view}
use Rattle.typing.specs.Labels.{seen_behind}
use Rattle.typing.specs.Outcomes.{labels_outcome}
use Rattle.stmt_types.specs.SeenLabels.{Sees}
use Rattle.stmt_types.proofs.labels.take_labels.Given as goal

abbrev pub invariant-loop-label : goal.invariant-loop-label
invariant-loop-label g l =
    (list : List Range) → Sees l.initial.seen list
    → (now : List Range) × Sees l.seen now
    × (labels_outcome (g.S.Scope.means l.scope) l.kind now l.judged (labels_view (drop l.label-index l.labels)) ≡ labels_outcome (g.S.Scope.means l.scope) l.kind list l.initial.judged (labels_view l.labels))
    × (seen_behind (g.S.Scope.means l.scope) l.kind now (labels_view (drop l.label-index l.labels)) ≡ seen_behind (g.S.Scope.means l.scope) l.kind list (labels_view l.labels))
