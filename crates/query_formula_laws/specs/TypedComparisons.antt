-- What is asked of a comparison and of the nodes of its programs' scans.
use Rattle.std.specs.Prelude.{ℕ, List, zero, suc, ◌+◌, ◌≡◌, ◌<◌, false, ◌++◌, length, map, All}
use Rattle.plc_types.specs.declared.elementary.Elementary.TheVariants as types
use Rattle.plc_types.specs.DataTypes.{carrier}
use Rattle.plc_types.specs.Types.{range_of}
use Rattle.program_tree.specs.Tree.{Expression, CellData, ProgramData}
use Rattle.program_tree.specs.Places.{of_cell, place_at, IsTypedPlace}
use Rattle.scan_model.specs.declared.relation.InputLine.{InputLine}
use Rattle.scan_model.specs.declared.relation.InputLine.TheVariants.{Both, Old, New}
use Rattle.queries.specs.Comparisons.{Comparison, IsComparison}
use Rattle.flat_core.specs.FlatTree.{FlatData}
use Rattle.flat_core.specs.FlatRules.{Reads}
use Rattle.flat_form.specs.FlatLaws.{LeavesTheSame}
use Rattle.node_core.specs.Scans.{ScanData, scan_of}
use Rattle.node_core.specs.TypedFlats.{IsTypedFlat, IsTypedClause}
use Rattle.query_formulas.specs.CellShapes.{cell_at, is_bounded}

-- a cell's range is one of numbers of its type; where it has no bounds, it is that of the type
pub record IsTypedCell (c : CellData) : Type 0 where
  pub place : IsTypedPlace (of_cell c)
  pub whole : is_bounded c ≡ false → c.range ≡ range_of (carrier c.kind)

-- the two cells that an INPUT line names are of one type
abbrev pub NamesAlike : ProgramData → ProgramData → InputLine → Type 0
NamesAlike old new (Both range p q) = carrier (cell_at old.cells p).kind ≡ carrier (cell_at new.cells q).kind
NamesAlike old new (Old range p) = Unit {0}
NamesAlike old new (New range q) = Unit {0}

-- a typed clause over OLD's cells and then NEW's
pub record IsClauseOf (c : Comparison) (e : Expression) : Type 0 where
  pub typed : IsTypedClause (map of_cell (c.old.cells ++ c.new.cells)) e
  pub reads : Reads (λ place. place < length (c.old.cells ++ c.new.cells)) e

pub record IsTypedComparison (c : Comparison) : Type 0 where
  pub comparison : IsComparison c
  pub old_cells : All IsTypedCell c.old.cells
  pub new_cells : All IsTypedCell c.new.cells
  pub alike : All (NamesAlike c.old c.new) c.relation.inputs
  pub environment : All (IsClauseOf c) c.relation.environment
  pub relates : All (IsClauseOf c) c.relation.relates
  pub candidates : All (λ k. IsClauseOf c k.clause) c.relation.candidates

-- the nodes are those of a scan of a typed flat program that leaves the cells that a scan of the program leaves
pub record IsScanOf (p : ProgramData) (s : ScanData) : Type 0 where
  pub flat : FlatData
  pub is : s ≡ scan_of flat
  pub typed : IsTypedFlat flat
  pub cells : flat.cells ≡ p.cells
  pub leaves : LeavesTheSame p flat

-- ---- what that follows from

-- a place of both programs' cells is one of a BOOL
pub record IsBoolPlace (cells : List CellData) (place : ℕ) : Type 0 where
  pub below : place < length cells
  pub kind : (place_at (map of_cell cells) place).kind ≡ types.Bool

-- so many steps of a chart, whose cells stand from a place of a program on, two for each, are BOOLs
abbrev pub AreSteps : List CellData → ℕ → ℕ → ℕ → Type 0
AreSteps cells start place zero = Unit {0}
AreSteps cells start place (suc steps) = IsBoolPlace cells (start + place) × AreSteps cells start (place + 2) steps

-- the clauses of the relation file are typed; then so are the candidates
pub record HasTypedClauses (c : Comparison) : Type 0 where
  pub comparison : IsComparison c
  pub old_cells : All IsTypedCell c.old.cells
  pub new_cells : All IsTypedCell c.new.cells
  pub alike : All (NamesAlike c.old c.new) c.relation.inputs
  pub environment : All (IsClauseOf c) c.relation.environment
  pub relates : All (IsClauseOf c) c.relation.relates
  pub invariants : All (IsClauseOf c) c.relation.invariants
  pub old_charts : All (λ k. AreSteps (c.old.cells ++ c.new.cells) 0 k.first k.steps) c.old.charts
  pub new_charts : All (λ k. AreSteps (c.old.cells ++ c.new.cells) (length c.old.cells) k.first k.steps) c.new.charts
