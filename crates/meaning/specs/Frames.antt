-- The cells that a call of a FUNCTION has: FAULT, what it answers, its inputs, and its other variables.
use Rattle.std.specs.Prelude.{ℕ, suc, zero, ◌+◌, List, [], ◌∷◌, false, slice_index_or, ℤ, pos}
use Rattle.program_tree.specs.plc_types.declared.data_type.DataType.TheVariants.{Unknown}
use Rattle.program_tree.specs.plc_types.declared.range.Range.{Range}
use Rattle.program_tree.specs.plc_types.DataTypes.{carrier}
use Rattle.program_tree.specs.declared.scratch.Scratch.{Scratch}
use Rattle.program_tree.specs.declared.typed.CellType.{CellType}
use Rattle.program_tree.specs.Tree.{Statements, no_statements, CalledData, block, function}
use Rattle.meaning.specs.Effects.{range_at}
use Rattle.meaning.specs.Calls.{nothing}

-- the types of the cells, their ranges and the values that they begin with
pub record FrameData : Type 0 where
  pub types : List CellType
  pub ranges : List Range
  pub start : List ℤ

-- a FUNCTION_BLOCK has no frame, and is not called
abbrev pub frame_of : CalledData → FrameData
frame_of (block body) = record { types = []; ranges = []; start = [] }
frame_of (function types ranges start body) = record { types = types; ranges = ranges; start = start }

-- by the number of a POU
abbrev pub frames_of : List CalledData → ℕ → FrameData
frames_of ps f = frame_of (slice_index_or ps f nothing)

abbrev pub function_body : CalledData → Statements
function_body (block body) = no_statements
function_body (function types ranges start body) = body

-- where there is no cell, there is no type
abbrev pub type_at : List CellType → ℕ → CellType
type_at types place = slice_index_or types place (record { kind = Unknown; is_subrange = false })

-- what a cell of a frame takes, and the value that it begins with
abbrev pub scratch_at : FrameData → ℕ → Scratch
scratch_at frame place = record { kind = carrier (type_at frame.types place).kind; range = range_at frame.ranges place; is_subrange = (type_at frame.types place).is_subrange }

abbrev pub initial_at : FrameData → ℕ → ℤ
initial_at frame place = slice_index_or frame.start place (pos 0)

-- so many numbers from one on
abbrev pub counted_from : ℕ → ℕ → List ℕ
counted_from k zero = []
counted_from k (suc n) = k ∷ counted_from (k + 1) n
