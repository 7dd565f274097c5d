use Rattle.std.proofs.Common.{◌≡◌, ◌==◌, take, slice_index}
use Rattle.std.specs.List.{filter}
use Rattle.call_order.proofs.circular.inside_part.Given as goal

abbrev pub invariant-loop-number : goal.invariant-loop-number
invariant-loop-number l = l.inside.items ≡ filter (λ used. slice_index l.parts used == l.part) (take l.number-index l.numbers)
