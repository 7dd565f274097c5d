use Rattle.std.proofs.Common.{◌≡◌, ◌++◌, map, drop}
use Rattle.program_tree.specs.View.{stmt_view}
use Rattle.decl_types.specs.ToldView.{told_view}
use Rattle.pou_cells.specs.ToldPlaces.{HavePlaces}
use Rattle.st_types.specs.ToldBeginnings.{told_beginnings}
use Rattle.st_types.proofs.bodies.beginnings.Given as goal

abbrev pub invariant-loop-told : goal.invariant-loop-told
invariant-loop-told l = record {
  made : map stmt_view l.list.items ++ told_beginnings l.sizes l.next (map told_view (drop l.told-index l.variables)) ≡ told_beginnings l.sizes l.initial.next (map told_view l.variables);
  room : HavePlaces l.sizes l.next (map told_view (drop l.told-index l.variables));
}
