use Rattle.std.proofs.Common.{ℕ, List, ap, ◌∙◌}
use Rattle.decl_types.specs.Bodies.{file_in}
use Rattle.typing.specs.Places.{sizes_of, variables_at, count_of_cells}
use Rattle.pou_cells.specs.ToldPlaces.{told_at}
use Rattle.pou_cells.specs.Placing.{capped_cells}
use Rattle.pou_cells.proofs.SizeLemmas.{capped_count, room_of}
use Rattle.pou_cells.proofs.sizes.has_room.Goals as goal

pub returns : goal.returns
returns c =
    let f = file_in c.args.pous.now.domains in
    let k = c.args.number in
    room_of (count_of_cells f (sizes_of f) (variables_at f k)) c.capped_cells.result
    (c.capped_cells.ensures ∙ ap (capped_cells c.args.sizes.now) c.told_at.ensures ∙ ap (λ (t : List ℕ). capped_cells t (told_at f k)) c.requires ∙ capped_count f (sizes_of f) k)
