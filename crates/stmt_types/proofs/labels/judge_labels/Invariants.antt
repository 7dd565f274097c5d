use Rattle.std.proofs.Common.{◌≡◌, List, [], drop}
use Rattle.plc_types.specs.declared.range.Range.{Range}
use Rattle.source_tree.specs.SyntaxView.{entries_view}
use Rattle.typing.specs.Outcomes.{labels_outcome, all_labels}
use Rattle.stmt_types.specs.SeenLabels.{Sees}
use Rattle.stmt_types.proofs.labels.judge_labels.Given as goal

abbrev pub invariant-loop-entry : goal.invariant-loop-entry
invariant-loop-entry g l =
    (now : List Range) × Sees l.seen now
    × (labels_outcome (g.S.Scope.means l.scope) l.kind now l.judged (all_labels (entries_view (drop l.entry-index l.entries))) ≡ labels_outcome (g.S.Scope.means l.scope) l.kind [] l.initial.judged (all_labels (entries_view l.entries)))
