use Rattle.std.proofs.Common.{◌≡◌, ◌≤◌, take, count_by}
use Rattle.source_tree.specs.SyntaxView.{parts_view}
use Rattle.naming.specs.Broken.{is_initial_part}
use Rattle.name_uses.proofs.chart.initial_count.Given as goal

abbrev pub invariant-loop-part : goal.invariant-loop-part
invariant-loop-part l = record {
  counted : l.count ≡ count_by is_initial_part (parts_view (take l.part-index l.parts));
  few : l.count ≤ l.part-index;
}
