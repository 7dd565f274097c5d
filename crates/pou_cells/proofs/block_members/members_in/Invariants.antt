use Rattle.std.proofs.Common.{◌≡◌, ◌++◌, map, drop}
use Rattle.decl_types.specs.ToldView.{told_view}
use Rattle.pou_cells.specs.ToldPlaces.{HavePlaces}
use Rattle.pou_cells.specs.ToldMembers.{told_members_from}
use Rattle.pou_cells.proofs.block_members.members_in.Given as goal

abbrev pub invariant-loop-told : goal.invariant-loop-told
invariant-loop-told l = record {
  made : l.list.items ++ told_members_from l.sizes l.next (map told_view (drop l.told-index l.tolds)) ≡ told_members_from l.sizes l.initial.next (map told_view l.tolds);
  room : HavePlaces l.sizes l.next (map told_view (drop l.told-index l.tolds));
}
