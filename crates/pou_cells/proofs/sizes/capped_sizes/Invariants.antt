use Rattle.std.proofs.Common.{◌≡◌, drop, map}
use Rattle.decl_types.specs.Bodies.{file_in}
use Rattle.typing.specs.Places.{sizes_of}
use Rattle.pou_cells.specs.Placing.{capped, capped_along}
use Rattle.pou_cells.proofs.sizes.capped_sizes.Given as goal

abbrev pub invariant-loop-number : goal.invariant-loop-number
invariant-loop-number l =
    capped_along (file_in l.pous.domains) l.sizes.items (drop l.number-index l.number-items) ≡ map capped (sizes_of (file_in l.pous.domains))
