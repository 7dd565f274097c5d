use Rattle.std.proofs.Common.{◌≡◌, map, take}
use Rattle.source_tree.specs.SyntaxView.{labels_view}
use Rattle.typing.specs.Labels.{typed_label}
use Rattle.stmt_types.proofs.labels.typed_labels.Given as goal

abbrev pub invariant-loop-label : goal.invariant-loop-label
invariant-loop-label g l = l.list.items ≡ map (typed_label (g.S.Scope.means l.scope) l.kind) (labels_view (take l.label-index l.labels))
