-- Words that are as wide as the types of their cells.
use Rattle.std.specs.Prelude.{List, All}
use Rattle.node_circuits.specs.NodeWords.{Words}
use Rattle.node_circuit_laws.specs.WordValues.{HaveWidths}
use Rattle.query_formulas.specs.declared.shapes.CellShape.{CellShape}
use Rattle.query_formulas.specs.Parts.{Parts}
use Rattle.query_formulas.specs.Products.{Product}
use Rattle.query_formulas.specs.Breaks.{ScanLiterals}
use Rattle.query_formulas.specs.Decoded.{types_of}

abbrev pub AreWide : List CellShape → Words → Type 0
AreWide cells words = HaveWidths (types_of cells) words

-- each word of a pair and a row
pub record IsWideProduct (parts : Parts) (p : Product) : Type 0 where
  pub old : AreWide parts.old p.pair.old
  pub new : AreWide parts.new p.pair.new
  pub inputs : AreWide parts.lines p.inputs

-- each word of rows
abbrev pub AreWideRows : List CellShape → List ScanLiterals → Type 0
AreWideRows cells ss = All (λ s. AreWide cells s.inputs) ss
