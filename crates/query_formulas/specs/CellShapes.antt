-- What circuits have to know of cells, and of the numbers of INPUT lines.
use Rattle.std.specs.Prelude.{ℕ, ◌+◌, Bool, true, false, ◌||◌, List, [], ◌∷◌, map, slice_index_or, pos}
use Rattle.plc_types.specs.declared.data_type.DataType.{DataType}
use Rattle.plc_types.specs.declared.data_type.DataType.TheVariants as kinds
use Rattle.plc_types.specs.declared.elementary.Elementary.TheVariants as types
use Rattle.plc_types.specs.DataTypes.{carrier}
use Rattle.plc_types.specs.Types.{width_of}
use Rattle.program_tree.specs.Tree.{CellData, ProgramData}
use Rattle.program_tree.specs.declared.typed.Part.TheVariants as parts
use Rattle.scan_model.specs.declared.relation.InputLine.{InputLine}
use Rattle.scan_model.specs.declared.relation.InputLine.TheVariants.{Both, Old, New}
use Rattle.query_formulas.specs.declared.shapes.CellShape.{CellShape}

abbrev pub is_enumeration : DataType → Bool
is_enumeration (kinds.Enumeration n) = true
is_enumeration (kinds.Elementary k) = false
is_enumeration kinds.Unknown = false

-- a subrange, or an enumeration: a word of its width can have other values
abbrev pub is_bounded : CellData → Bool
is_bounded c = c.is_subrange || is_enumeration c.kind

abbrev pub shape_of : CellData → CellShape
shape_of c = record { kind = carrier c.kind; bounded = is_bounded c; range = c.range; initial = c.initial }

abbrev pub shapes_of : List CellData → List CellShape
shapes_of cells = map shape_of cells

-- how many bits a word of the cell has
abbrev pub width_of_cell : CellShape → ℕ
width_of_cell c = width_of c.kind

-- how many bits the words of cells have together
abbrev pub bits_of : List CellShape → ℕ
bits_of [] = 0
bits_of (c ∷ cs) = width_of_cell c + bits_of cs

-- ---- inputs

-- where there is no cell, one of BOOL
abbrev pub cell_at : List CellData → ℕ → CellData
cell_at cells place = slice_index_or cells place (record { path = []; part = parts.Local; kind = kinds.Elementary types.Bool; range = record { low = pos 0; high = pos 1 }; is_subrange = false; initial = pos 0 })

-- the cell that an INPUT line names, OLD's where it names two, which are alike
abbrev pub cell_of_line : ProgramData → ProgramData → InputLine → CellData
cell_of_line old new (Both range p q) = cell_at old.cells p
cell_of_line old new (Old range p) = cell_at old.cells p
cell_of_line old new (New range q) = cell_at new.cells q

abbrev pub cells_of_lines : ProgramData → ProgramData → List InputLine → List CellData
cells_of_lines old new lines = map (cell_of_line old new) lines
