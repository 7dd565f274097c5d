use Rattle.std.proofs.Common.{ℕ, ◌+◌, ap, ◌∙◌, arith}
use Rattle.decl_types.specs.Bodies.{file_in}
use Rattle.decl_types.specs.ToldView.{told_view}
use Rattle.typing.specs.Places.{sizes_of}
use Rattle.pou_cells.specs.ToldPlaces.{told_cells}
use Rattle.pou_cells.proofs.SizeLemmas.{capped_word}
use Rattle.st_types.proofs.chart_places.place_behind.Goals as goal

pub overflow_add-result : goal.overflow_add-result
overflow_add-result c =
    let taken = told_cells (sizes_of (file_in c.args.placed.now.pous.domains)) (told_view c.args.told.now) in
    let same = c.cells_taken.ensures ∙ capped_word taken (omega arith) in
    omega (arith, same, c.requires)

pub returns : goal.returns
returns c =
    let taken = told_cells (sizes_of (file_in c.args.placed.now.pous.domains)) (told_view c.args.told.now) in
    ap (λ (n : ℕ). c.args.place + n) (c.cells_taken.ensures ∙ capped_word taken (omega arith))
