use Rattle.std.proofs.Common.{◌≡◌, map, take}
use Rattle.program_tree.specs.View.{operand_view}
use Rattle.flat_form.specs.FlatLists.{or_test}
use Rattle.fb_inline.proofs.labels.or_tests.Given as goal

abbrev pub invariant-loop-label : goal.invariant-loop-label
invariant-loop-label l = map operand_view l.tests.items ≡ map (or_test l.kind l.place) (take l.label-index l.labels)
