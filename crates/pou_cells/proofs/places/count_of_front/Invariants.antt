use Rattle.std.proofs.Common.{◌≡◌, ◌+◌, map, drop}
use Rattle.decl_types.specs.ToldView.{told_view}
use Rattle.pou_cells.specs.ToldPlaces.{told_count, told_front}
use Rattle.pou_cells.proofs.places.count_of_front.Given as goal

abbrev pub invariant-loop-told : goal.invariant-loop-told
invariant-loop-told l =
    l.front + told_count l.sizes (told_front l.of_function (map told_view (drop l.told-index l.tolds))) ≡ told_count l.sizes (told_front l.of_function (map told_view l.tolds))
