use Rattle.std.proofs.Common.{◌≡◌, List, [], ◌∷◌, ◌++◌, length, true, false, None, ap, ◌∙◌}
use Rattle.program_tree.specs.declared.typed.Cell.{Cell}
use Rattle.program_tree.specs.Tree.{CellData}
use Rattle.program_tree.specs.View.{cells_view}
use Rattle.naming.specs.FileScope.{pous_of}
use Rattle.decl_types.specs.Bodies.{file_in}
use Rattle.pou_cells.specs.ToldPlaces.{told_at}
use Rattle.typing.specs.Places.{sizes_of, variables_at}
use Rattle.typing.specs.TypedPrograms.{block_cells, fault_cell}
use Rattle.st_types.specs.ToldCells.{told_cells_of}
use Rattle.st_types.proofs.ToldLemmas.{front_cells-told}
use Rattle.st_types.proofs.cells.front_cells.Goals as goal

pub returns : goal.returns
returns c =
    let f = file_in c.args.placed.now.pous.domains in
    let of_block = block_cells f (length (pous_of f)) in
    let started : cells_view c.push.new.self.items ≡ fault_cell ∷ [] =
    ap cells_view c.in_ok-push.ensures.items ∙ ap (λ (l : List Cell). cells_view (l ++ c.in_ok-fault_cell.field-0 ∷ [])) c.new-list.ensures.items ∙ ap (λ (x : CellData). x ∷ []) c.in_ok-fault_cell.ensures in
    c.in_ok-write_part.ensures
    ∙ ap (λ (cs : List CellData). cs ++ told_cells_of (sizes_of f) of_block (record { of_function = true; in_front = true; inside = false }) None (told_at f c.args.number)) started
    ∙ ap (λ (cs : List CellData). fault_cell ∷ cs) (front_cells-told f of_block None true false (variables_at f c.args.number))
