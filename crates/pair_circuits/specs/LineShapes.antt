-- The shapes of the cells that INPUT lines name, found among those of all cells.
use Rattle.std.specs.Prelude.{ℕ, false, List, map, slice_index_or, pos}
use Rattle.plc_types.specs.declared.elementary.Elementary.TheVariants as types
use Rattle.scan_model.specs.declared.relation.InputLine.{InputLine}
use Rattle.scan_model.specs.declared.relation.InputLine.TheVariants.{Both, Old, New}
use Rattle.query_formulas.specs.declared.shapes.CellShape.{CellShape}

-- where there is no cell, one of BOOL
abbrev pub no_cell : CellShape
no_cell = record { kind = types.Bool; bounded = false; range = record { low = pos 0; high = pos 1 }; initial = pos 0 }

abbrev pub shape_at : List CellShape → ℕ → CellShape
shape_at cells place = slice_index_or cells place no_cell

-- the cell that an INPUT line names, OLD's where it names two, which are alike
abbrev pub shape_of_line : List CellShape → List CellShape → InputLine → CellShape
shape_of_line old new (Both range p q) = shape_at old p
shape_of_line old new (Old range p) = shape_at old p
shape_of_line old new (New range q) = shape_at new q

abbrev pub shapes_of_lines : List CellShape → List CellShape → List InputLine → List CellShape
shapes_of_lines old new lines = map (shape_of_line old new) lines
