-- Free words are as wide as the types of their cells.
use Rattle.std.proofs.Common.{◌≡◌, ℕ, zero, suc, ◌+◌, refl, ap, List, [], ◌∷◌, length}
use Rattle.clause_core.specs.declared.literal.Lit.{Lit}
use Rattle.plc_types.specs.declared.elementary.Elementary.{Elementary}
use Rattle.plc_types.specs.Types.{width_of}
use Rattle.node_circuits.specs.NodeWords.{Words}
use Rattle.node_circuit_laws.specs.WordValues.{HaveWidths}
use Rattle.query_formulas.specs.declared.shapes.CellShape.{CellShape}
use Rattle.query_formulas.specs.CellShapes.{width_of_cell}
use Rattle.query_formulas.specs.PairWords.{free_word, free_words}
use Rattle.query_formulas.specs.Decoded.{types_of}

length-free : (v width : ℕ) → length (free_word v width) ≡ width
length-free v zero = refl
length-free v (suc width) = ap suc (length-free (v + 1) width)

pub widths-cons : (t : Elementary) (ts : List Elementary) (w : List Lit) (ws : Words) → length w ≡ width_of t → HaveWidths ts ws → HaveWidths (t ∷ ts) (w ∷ ws)
widths-cons t ts w ws e h = cc

pub widths-free : (v : ℕ) (cells : List CellShape) → HaveWidths (types_of cells) (free_words v cells)
widths-free v [] = refl
widths-free v (c ∷ cells) = widths-cons c.kind (types_of cells) (free_word v (width_of_cell c)) (free_words (v + width_of_cell c) cells) (length-free v (width_of_cell c)) (widths-free (v + width_of_cell c) cells)
