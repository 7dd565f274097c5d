use Rattle.std.proofs.Common.{◌≡◌, map, drop}
use Rattle.std.specs.List.{list_all}
use Rattle.decl_types.specs.Bodies.{file_in}
use Rattle.decl_types.specs.ToldView.{told_view}
use Rattle.pou_cells.specs.Placing.{is_placed_block}
use Rattle.pou_cells.proofs.placed_pous.PlacedPous.are_blocks_placed.Given as goal

-- those behind decide it
abbrev pub invariant-loop-told : goal.invariant-loop-told
invariant-loop-told l =
    list_all (λ t. is_placed_block (file_in l.self.pous.domains) t.block) (map told_view (drop l.told-index l.variables)) ≡ list_all (λ t. is_placed_block (file_in l.self.pous.domains) t.block) (map told_view l.variables)
