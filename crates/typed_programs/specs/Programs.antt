-- When a program is typed: its cells and those of each POU that it may run and call have ranges of their types, each body is typed over its places, and
-- no EXIT and no RETURN leaves a body.
use Rattle.std.specs.Prelude.{◌≡◌, ◌≤◌, ◌<◌, ℕ, false, List, length, map, pos, slice_index_or, All}
use Rattle.plc_types.specs.declared.data_type.DataType.{DataType}
use Rattle.plc_types.specs.declared.data_type.DataType.TheVariants as kinds
use Rattle.plc_types.specs.Types.{range_of}
use Rattle.program_tree.specs.Tree.{CellData, CalledData, block, function, Statements, ProgramData}
use Rattle.program_tree.specs.declared.scratch.Scratch.{Scratch}
use Rattle.program_tree.specs.Leaving.{LeavesNothing}
use Rattle.program_tree.specs.Places.{of_cell, place_at, IsTypedPlace}
use Rattle.meaning.specs.Effects.{range_at}
use Rattle.meaning.specs.Calls.{nothing}
use Rattle.meaning.specs.Frames.{FrameData, frames_of, scratch_at, counted_from}
use Rattle.scan_model.specs.InRange.{IsInRange, BeginsWithFault}
use Rattle.typed_programs.specs.Scopes.{Pous}
use Rattle.typed_programs.specs.Statements.{AreTypedParts}

-- A cell's range is one of numbers of its type. A cell of an elementary type that is no subrange takes all numbers of its type.
abbrev pub HasWholeRange : CellData → DataType → Type 0
HasWholeRange c (kinds.Elementary k) = c.is_subrange ≡ false → c.range ≡ range_of k
HasWholeRange c (kinds.Enumeration n) = c.is_subrange ≡ false
HasWholeRange c kinds.Unknown = ⊥

pub record IsTypedCell (c : CellData) : Type 0 where
  pub place : IsTypedPlace (of_cell c)
  pub whole : HasWholeRange c c.kind

-- what each place of a FUNCTION's call takes
abbrev pub frame_places : FrameData → List Scratch
frame_places frame = map (scratch_at frame) (counted_from 0 (length frame.types))

-- The cells of a FUNCTION begin in their ranges, FAULT, which is a BOOL, at 0.
pub record IsTypedFrame (frame : FrameData) : Type 0 where
  pub ranges : length frame.ranges ≡ length frame.types
  pub answers : 2 ≤ length frame.types
  pub fault_low : (range_at frame.ranges 0).low ≡ pos 0
  pub fault_high : (range_at frame.ranges 0).high ≡ pos 1
  pub no_fault : slice_index_or frame.start 0 (pos 0) ≡ pos 0
  pub start_in_range : IsInRange frame.ranges frame.start
  pub places : All IsTypedPlace (frame_places frame)

-- a body over these places, the first of which that has a name is told, and behind so many POUs; no EXIT and no RETURN leaves it
pub record IsTypedBody (pous : Pous) (first : ℕ) (places : List Scratch) (before : ℕ) (body : Statements) : Type 0 where
  pub settable : ℕ
  pub within : settable ≤ length places
  pub typed : AreTypedParts pous (record { first = first; places = places; settable = settable; pous = before }) body
  pub leaves_nothing : LeavesNothing body

-- a POU behind so many others
abbrev pub IsTypedPou : Pous → ℕ → CalledData → Type 0
IsTypedPou pous n (block body) = All IsTypedPlace (pous.instances n) × IsTypedBody pous 0 (pous.instances n) n body
IsTypedPou pous n (function types ranges start body) = IsTypedFrame (pous.frames n) × IsTypedBody pous 1 (frame_places (pous.frames n)) n body

pub record IsTypedProgram (p : ProgramData) : Type 0 where
  pub instances : ℕ → List Scratch
  pub fault : BeginsWithFault p.cells
  pub whole_fault : (place_at (map of_cell p.cells) 0).is_subrange ≡ false
  pub cells : All IsTypedCell p.cells
  pub called : (n : ℕ) → n < length p.called → IsTypedPou (record { frames = frames_of p.called; instances = instances }) n (slice_index_or p.called n nothing)
  pub body : IsTypedBody (record { frames = frames_of p.called; instances = instances }) 1 (map of_cell p.cells) (length p.called) p.body
