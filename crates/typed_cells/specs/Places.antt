-- What the places of each POU of a file take, in the order of its cells, and what its body is typed over.
use Rattle.std.specs.Prelude.{ℕ, ℤ, pos, ◌+◌, List, [], ◌∷◌, ◌++◌, length, map, Bool, false, Option, Some, None, slice_index_or}
use Rattle.source_tree.specs.Syntax.{SpecificationData, of_type, of_values, PouTypeData, function, function_block, program, PouData, FileData}
use Rattle.program_tree.specs.Tree.{CellData}
use Rattle.program_tree.specs.declared.scratch.Scratch.{Scratch}
use Rattle.program_tree.specs.Places.{of_cell}
use Rattle.naming.specs.FileScope.{pous_of}
use Rattle.naming.specs.Types.{specification_at}
use Rattle.naming.specs.Scopes.{Variable, result_of, variables_of, variables_in_pou}
use Rattle.meaning.specs.Frames.{FrameData, frames_of}
use Rattle.typing.specs.Places.{sizes_of, count_of_cells}
use Rattle.typing.specs.Members.{called_order, called_number}
use Rattle.typing.specs.TypedPrograms.{fault_cell, cells_in, block_cells, frame_cells, type_of_cell}
use Rattle.running_pous.specs.Stated.{stated_by}
use Rattle.typed_programs.specs.Scopes.{Pous, BodyScope}

-- the number of the last value of an enumeration
abbrev pub last_value : Option SpecificationData → ℤ
last_value None = pos 0
last_value (Some (of_type t)) = pos 0
last_value (Some (of_values at first others)) = pos (length others)

abbrev pub last : FileData → ℕ → ℤ
last f t = last_value (specification_at f t)

-- what the cells of an instance of a block take
abbrev pub block_places : FileData → ℕ → List Scratch
block_places f b = map of_cell (block_cells f (length (pous_of f)) None b)

-- those of a POU; before the cells of a FUNCTION and of a PROGRAM stands FAULT
abbrev pub pou_places : FileData → ℕ → PouTypeData → PouData → List Scratch
pou_places f k (function t) p = map of_cell (frame_cells f p)
pou_places f k function_block p = block_places f k
pou_places f k program p = map of_cell (fault_cell ∷ cells_in f (Some []) false (variables_in_pou p))

-- where the cells of a POU begin
abbrev pub first_of : PouTypeData → ℕ
first_of (function t) = 1
first_of function_block = 0
first_of program = 1

-- how many POUs that may be called stand before one; all before a PROGRAM
abbrev pub before_pou : FileData → ℕ → PouTypeData → ℕ
before_pou f k (function t) = called_number f k
before_pou f k function_block = called_number f k
before_pou f k program = length (called_order f)

-- the names of a POU but those of its chart
abbrev pub declared_names : PouData → List Variable
declared_names p = result_of p.pou_type p.name ++ variables_of p.variables

-- where the cells of its chart begin, or would: behind those of all other names
abbrev pub chart_place : FileData → PouData → ℕ
chart_place f p = first_of p.pou_type + count_of_cells f (sizes_of f) (declared_names p)

abbrev pub scope_over : FileData → ℕ → PouData → BodyScope
scope_over f k p = record {
  first = first_of p.pou_type;
  places = pou_places f k p.pou_type p;
  settable = chart_place f p;
  pous = before_pou f k p.pou_type;
}

-- the POUs that may be run and called, by their numbers among them, of which some run
abbrev pub pous : FileData → (ℕ → Bool) → Pous
pous f runs = record { frames = frames_of (stated_by f runs); instances = λ n. block_places f (slice_index_or (called_order f) n 0) }

-- the frame of these cells
abbrev pub frame_for : List CellData → FrameData
frame_for cs = record { types = map type_of_cell cs; ranges = map (λ c. c.range) cs; start = map (λ c. c.initial) cs }
