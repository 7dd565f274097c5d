-- What the circuits of a pair are made from: the shapes of the cells, the INPUT lines, and the nodes of both scans and of each clause.
use Rattle.std.specs.Prelude.{ℕ, ◌+◌, List, map, length}
use Rattle.program_tree.specs.Tree.{Expression, CellData}
use Rattle.scan_model.specs.declared.relation.InputLine.{InputLine}
use Rattle.node_core.specs.Scans.{ScanData, ClauseData, clause_of}
use Rattle.queries.specs.Comparisons.{Comparison}
use Rattle.query_formulas.specs.declared.shapes.CellShape.{CellShape}
use Rattle.query_formulas.specs.CellShapes.{shapes_of, cells_of_lines}

pub record Parts : Type 0 where
  pub old : List CellShape
  pub new : List CellShape
  -- the cells that the INPUT lines name, and the lines
  pub lines : List CellShape
  pub inputs : List InputLine
  pub old_scan : ScanData
  pub new_scan : ScanData
  pub candidates : List ClauseData
  pub environment : List ClauseData
  pub relates : List ClauseData
  pub depth : ℕ

-- the nodes of clauses over so many cells
abbrev pub clauses_of : ℕ → List Expression → List ClauseData
clauses_of cells es = map (clause_of cells) es

-- the cells that the INPUT lines of a comparison name
abbrev pub lines_cells : Comparison → List CellData
lines_cells c = cells_of_lines c.old c.new c.relation.inputs

-- how many cells both programs have
abbrev pub cells_of : Comparison → ℕ
cells_of c = length c.old.cells + length c.new.cells

-- from a comparison, and the nodes of both scans
abbrev pub parts_of : Comparison → ScanData → ScanData → Parts
parts_of c old new = record {
  old = shapes_of c.old.cells;
  new = shapes_of c.new.cells;
  lines = shapes_of (lines_cells c);
  inputs = c.relation.inputs;
  old_scan = old;
  new_scan = new;
  candidates = clauses_of (cells_of c) (map (λ k. k.clause) c.relation.candidates);
  environment = clauses_of (cells_of c) c.relation.environment;
  relates = clauses_of (cells_of c) c.relation.relates;
  depth = c.relation.depth;
}
