use Rattle.std.proofs.Common.{[], arith}
use Rattle.decl_types.specs.Bodies.{file_in}
use Rattle.pou_cells.proofs.RoomLemmas.{low_alone}
use Rattle.st_types.proofs.outlines.outlined_body.Goals as goal

pub type_body-requires : goal.type_body-requires
type_body-requires c = λ n.
    let low = low_alone (file_in c.args.pous.now.domains) [] c.args.number n in
    let few = c.args.pous.now.few c.args.number in
    omega (arith, low, few)
