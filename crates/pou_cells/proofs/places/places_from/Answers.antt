use Rattle.std.proofs.Common.{map, arith}
use Rattle.decl_types.specs.ToldView.{told_view}
use Rattle.pou_cells.proofs.RoomLemmas.{front_few}
use Rattle.pou_cells.proofs.places.places_from.Goals as goal

pub overflow_add-result : goal.overflow_add-result
overflow_add-result c = let few = front_few c.args.sizes.now c.args.of_function (map told_view c.args.tolds.now) in omega (arith, few)
