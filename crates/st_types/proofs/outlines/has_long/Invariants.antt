use Rattle.std.proofs.Common.{◌≡◌, drop}
use Rattle.std.specs.List.{list_any}
use Rattle.st_types.specs.Outlines.{is_long}
use Rattle.st_types.proofs.outlines.has_long.Given as goal

abbrev pub invariant-loop-number : goal.invariant-loop-number
invariant-loop-number l = list_any (is_long l.sizes) (drop l.number-index l.pous.called.items) ≡ list_any (is_long l.sizes) l.pous.called.items
