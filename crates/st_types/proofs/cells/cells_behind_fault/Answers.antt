use Rattle.std.proofs.Common.{◌≡◌, List, [], ◌∷◌, ◌++◌, length, false, refl, ap, ◌∙◌}
use Rattle.std.specs.Prelude.{option_map}
use Rattle.program_tree.specs.declared.typed.Cell.{Cell}
use Rattle.program_tree.specs.Tree.{CellData}
use Rattle.program_tree.specs.View.{cells_view}
use Rattle.naming.specs.FileScope.{pous_of}
use Rattle.decl_types.specs.Bodies.{file_in}
use Rattle.pou_cells.specs.ToldPlaces.{told_at}
use Rattle.typing.specs.Places.{variables_at}
use Rattle.typing.specs.TypedPrograms.{block_cells, cells_in, fault_cell}
use Rattle.st_types.proofs.ToldLemmas.{cells_in_order}
use Rattle.st_types.proofs.cells.cells_behind_fault.Goals as goal

pub returns : goal.returns
returns c =
    let f = file_in c.args.placed.now.pous.domains in
    let before = option_map (λ b. b.now) c.args.before in
    let first = c.push.new.self.items in
    let vs = variables_at f c.args.number in
    let started : cells_view first ≡ fault_cell ∷ [] =
    ap cells_view c.in_ok-push.ensures.items ∙ ap (λ (l : List Cell). cells_view (l ++ c.in_ok-fault_cell.field-0 ∷ [])) c.new-list.ensures.items ∙ ap (λ (x : CellData). x ∷ []) c.in_ok-fault_cell.ensures in
    cells_in_order f (block_cells f (length (pous_of f))) before c.args.of_function false vs (told_at f c.args.number) (cells_view first) (cells_view c.write_part.new.list.items) (cells_view c.write_part-2.new.list.items) refl
    c.in_ok-write_part.ensures c.in_ok-write_part-2.ensures
    ∙ ap (λ (cs : List CellData). cs ++ cells_in f before c.args.of_function vs) started
