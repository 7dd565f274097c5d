-- The shapes that INPUT lines find are those of the cells that they name.
use Rattle.std.proofs.Common.{◌≡◌, ℕ, zero, suc, refl, ◌∙◌, ap, List, [], ◌∷◌}
use Rattle.program_tree.specs.Tree.{CellData, ProgramData}
use Rattle.scan_model.specs.declared.relation.InputLine.{InputLine}
use Rattle.scan_model.specs.declared.relation.InputLine.TheVariants.{Both, Old, New}
use Rattle.query_formulas.specs.declared.shapes.CellShape.{CellShape}
use Rattle.query_formulas.specs.CellShapes.{shape_of, shapes_of, cell_at, cell_of_line, cells_of_lines}
use Rattle.pair_circuits.specs.LineShapes.{shape_at, shape_of_line, shapes_of_lines}

shape_same : (cells : List CellData) (place : ℕ) → shape_at (shapes_of cells) place ≡ shape_of (cell_at cells place)
shape_same [] place = refl
shape_same (c ∷ cells) zero = refl
shape_same (c ∷ cells) (suc place) = shape_same cells place

line_same : (old new : ProgramData) (l : InputLine) → shape_of_line (shapes_of old.cells) (shapes_of new.cells) l ≡ shape_of (cell_of_line old new l)
line_same old new (Both range p q) = shape_same old.cells p
line_same old new (Old range p) = shape_same old.cells p
line_same old new (New range q) = shape_same new.cells q

pub lines_same : (old new : ProgramData) (ls : List InputLine) → shapes_of_lines (shapes_of old.cells) (shapes_of new.cells) ls ≡ shapes_of (cells_of_lines old new ls)
lines_same old new [] = refl
lines_same old new (l ∷ ls) =
    ap (λ (s : CellShape). s ∷ shapes_of_lines (shapes_of old.cells) (shapes_of new.cells) ls) (line_same old new l)
    ∙ ap (λ (ss : List CellShape). shape_of (cell_of_line old new l) ∷ ss) (lines_same old new ls)
