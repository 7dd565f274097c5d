use Rattle.std.proofs.Common.{◌≡◌, ◌++◌, take, map}
use Rattle.source_tree.specs.SyntaxView.{names_view}
use Rattle.sfc_shape.specs.Shapes.{steps_of, step_number}
use Rattle.sfc_shape.specs.PartsView.{parts_in}
use Rattle.sfc_shape.proofs.shape.Shape.append_numbers.Given as goal

abbrev pub invariant-loop-name : goal.invariant-loop-name
invariant-loop-name l = l.numbers.items ≡ l.fn.numbers.items ++ map (λ n. step_number 0 (steps_of (parts_in l.self)) n.text) (names_view (take l.name-index l.names))
