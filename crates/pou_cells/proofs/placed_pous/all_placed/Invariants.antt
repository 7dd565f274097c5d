use Rattle.std.proofs.Common.{◌≡◌, ◌++◌, map, drop}
use Rattle.decl_types.specs.Bodies.{file_in}
use Rattle.naming.specs.FileScope.{pous_of}
use Rattle.pou_cells.specs.Placing.{placed_in, all_placed}
use Rattle.pou_cells.proofs.PlacedLemmas.{placed_items}
use Rattle.pou_cells.proofs.placed_pous.all_placed.Given as goal

abbrev pub invariant-loop-number : goal.invariant-loop-number
invariant-loop-number l = map placed_items l.list.items ++ map (placed_in (file_in l.pous.domains)) (drop l.number (pous_of (file_in l.pous.domains))) ≡ all_placed (file_in l.pous.domains)
