use Rattle.std.proofs.Common.{map, arith, rules}
use Rattle.std.proofs.lemmas.Grind.{common_steps}
use Rattle.source_tree.specs.SyntaxView.{pou_type_view}
use Rattle.decl_types.specs.ToldView.{told_view}
use Rattle.pou_cells.proofs.RoomLemmas.{begins_with_room}
use Rattle.pou_cells.proofs.block_members.members_in.Goals as goal

pub loop-told-init : goal.loop-told-init
loop-told-init c = record {
  made = search rules;
  room = rw c.first_places-next.ensures (begins_with_room c.args.sizes.now (pou_type_view c.args.pou_type.now) (map told_view c.args.tolds.now) c.requires);
}

pub loop-told-preserved : goal.loop-told-preserved
loop-told-preserved c = record {
  made = grind (arith, common_steps);
  room = grind (arith, common_steps);
}
