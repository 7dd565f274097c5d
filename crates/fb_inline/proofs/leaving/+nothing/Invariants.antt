use Rattle.std.proofs.Common.{◌≡◌, drop}
use Rattle.flat_core.specs.FlatView.{flats_view}
use Rattle.fb_inline.specs.Leaving.{are_none}
use Rattle.fb_inline.proofs.leaving.+nothing.Given as goal

-- those so far are nothing
abbrev pub invariant-are_none-loop-stmt : goal.invariant-are_none-loop-stmt
invariant-are_none-loop-stmt l = record { left : are_none (flats_view (drop l.stmt-index l.list)) ≡ are_none (flats_view l.list) }
