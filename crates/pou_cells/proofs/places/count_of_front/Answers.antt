use Rattle.std.proofs.Common.{map, arith}
use Rattle.std.proofs.lemmas.Grind.{common_steps}
use Rattle.decl_types.specs.ToldView.{told_view}
use Rattle.pou_cells.proofs.RoomLemmas.{front_few}
use Rattle.pou_cells.proofs.places.count_of_front.Goals as goal

pub overflow_add-front : goal.overflow_add-front
overflow_add-front c = let few = front_few c.args.sizes.now c.args.of_function (map told_view c.args.tolds.now) in let is = c.told-item.is in grind (arith, common_steps, few)
