use Rattle.std.proofs.Common.{◌≡◌, ◌+◌, map, drop}
use Rattle.decl_types.specs.ToldView.{told_view}
use Rattle.pou_cells.specs.Placing.{capped, capped_cells}
use Rattle.pou_cells.proofs.sizes.capped_cells.Given as goal

abbrev pub invariant-loop-told : goal.invariant-loop-told
invariant-loop-told l =
    (capped l.count ≡ l.count) × (capped (l.count + capped_cells l.sizes (map told_view (drop l.told-index l.tolds))) ≡ capped_cells l.sizes (map told_view l.tolds))
