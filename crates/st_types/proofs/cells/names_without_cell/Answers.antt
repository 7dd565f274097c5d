use Rattle.std.proofs.Common.{◌≡◌, map, ap, ◌∙◌}
use Rattle.program_tree.specs.View.{texts_view}
use Rattle.decl_types.specs.Bodies.{file_in}
use Rattle.decl_types.specs.ToldView.{told_view}
use Rattle.typing.specs.Places.{variables_at}
use Rattle.typing.specs.TypedPrograms.{names_without_cell}
use Rattle.typing_laws.proofs.Judging.{on_ok}
use Rattle.st_types.specs.ToldCells.{told_without_cell}
use Rattle.st_types.proofs.ToldLemmas.{without_cell-told}
use Rattle.st_types.proofs.cells.names_without_cell.Goals as goal

pub returns : goal.returns
returns c =
    let f = file_in c.args.pous.now.domains in
    let vs = variables_at f c.args.number in
    on_ok c.told_without_cell.result (λ list. texts_view list.items ≡ told_without_cell (map told_view c.told_at.result.now)) (λ list. texts_view list.items ≡ names_without_cell f vs)
    (λ list is. is ∙ ap told_without_cell c.told_at.ensures ∙ without_cell-told f vs) c.told_without_cell.ensures
