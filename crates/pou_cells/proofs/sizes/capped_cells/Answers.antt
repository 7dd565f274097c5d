use Rattle.std.proofs.Common.{refl, map}
use Rattle.decl_types.specs.ToldView.{told_view}
use Rattle.pou_cells.proofs.SizeLemmas.{capped_start}
use Rattle.pou_cells.proofs.sizes.capped_cells.Goals as goal

pub loop-told-init : goal.loop-told-init
loop-told-init c = (refl, capped_start c.args.sizes.now (map told_view c.args.tolds.now))
