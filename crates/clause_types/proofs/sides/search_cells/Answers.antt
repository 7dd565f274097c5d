use Rattle.std.proofs.Common.{◌≡◌, ◌+◌, ◌∷◌, drop, Some, ap, sym, ◌∙◌, arith}
use Rattle.std.proofs.lemmas.Grind.{common_steps}
use Rattle.source_tree.specs.SyntaxView.{names_view}
use Rattle.program_tree.specs.View.{cell_view, cells_view}
use Rattle.typing.specs.Programs.{joined, own_type, cell_among}
use Rattle.clause_types.proofs.SideLemmas.{among_here, among_next}
use Rattle.clause_types.proofs.sides.search_cells.Goals as goal

pub returns-then-is_joined : goal.returns-then-is_joined
returns-then-is_joined c =
    let i = c.loop-index.index in
    let item = c.index-cells-index.result in
    let text = joined (names_view c.args.members.now) in
    let rest = cells_view (drop (i + 1) c.args.cells.now) in
    let left : cells_view (drop i c.args.cells.now) ≡ cell_view item ∷ rest = grind (arith, common_steps) in
    let same = rw c.as_bytes.ensures.value at c.is_joined.ensures in
    ap Some c.cell_meaning.ensures ∙ among_here text (c.args.start + i) (cell_view item) rest c.is_joined.result same c.if-is_joined.true ∙ ap (cell_among own_type text (c.args.start + i)) (sym left) ∙ sym c.loop-index.invariant

pub loop-index-preserved : goal.loop-index-preserved
loop-index-preserved c =
    let i = c.loop-index.index in
    let item = c.index-cells-index.result in
    let text = joined (names_view c.args.members.now) in
    let rest = cells_view (drop (i + 1) c.args.cells.now) in
    let left : cells_view (drop i c.args.cells.now) ≡ cell_view item ∷ rest = grind (arith, common_steps) in
    let same = rw c.as_bytes.ensures.value at c.is_joined.ensures in
    c.loop-index.invariant ∙ ap (cell_among own_type text (c.args.start + i)) left ∙ among_next text (c.args.start + i) (cell_view item) rest c.is_joined.result same c.if-is_joined.false ∙ ap (λ n. cell_among own_type text n rest) (omega arith)
