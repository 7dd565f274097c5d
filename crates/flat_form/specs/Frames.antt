-- The scratch cells that a call of a FUNCTION has, one for each cell of its frame but FAULT, and the assignments that start them.
use Rattle.std.specs.Prelude.{ℕ, suc, zero, ◌+◌, ◌-◌, List, [], ◌∷◌, ◌++◌, length, if◌then◌else◌}
use Rattle.program_tree.specs.Tree.{number}
use Rattle.program_tree.specs.declared.scratch.Scratch.{Scratch}
use Rattle.meaning.specs.Frames.{FrameData, type_at, scratch_at, initial_at, counted_from}
use Rattle.flat_core.specs.FlatTree.{FlatStatement, set}

-- the assignment that starts an input of a subrange, whose scratch cell is t, before its value is assigned
abbrev pub input_start : FrameData → ℕ → ℕ → List FlatStatement
input_start frame place t = if (type_at frame.types place).is_subrange then set t (number (initial_at frame place)) ∷ [] else []

-- how many variables stand behind so many inputs
abbrev pub others_behind : FrameData → ℕ → ℕ
others_behind frame inputs = length frame.types - (2 + inputs)

-- the scratch cells of so many cells, from a place on, and the assignments that start them, the first scratch cell being k
abbrev pub other_scratch : FrameData → ℕ → ℕ → List Scratch
other_scratch frame place zero = []
other_scratch frame place (suc n) = scratch_at frame place ∷ other_scratch frame (place + 1) n

abbrev pub other_starts : FrameData → ℕ → ℕ → ℕ → List FlatStatement
other_starts frame place zero k = []
other_starts frame place (suc n) k = set k (number (initial_at frame place)) ∷ other_starts frame (place + 1) n (k + 1)

-- Where the inputs and other variables of a call stand, whose inputs stand at these places, and the others from k on.
abbrev pub places_of : List ℕ → ℕ → ℕ → List ℕ
places_of inputs k others = inputs ++ counted_from k others
