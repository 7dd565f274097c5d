-- Which cells are a program's inputs, and which its outputs.
use Rattle.std.specs.Prelude.{ℕ, ◌+◌, Bool, true, false, List, [], ◌∷◌, if◌then◌else◌}
use Rattle.program_tree.specs.declared.typed.Part.{Part}
use Rattle.program_tree.specs.declared.typed.Part.TheVariants as parts
use Rattle.program_tree.specs.Tree.{CellData, ProgramData}

abbrev pub is_input : Part → Bool
is_input parts.Fault = false
is_input parts.Input = true
is_input parts.Output = false
is_input parts.Local = false

abbrev pub is_output : Part → Bool
is_output parts.Fault = false
is_output parts.Input = false
is_output parts.Output = true
is_output parts.Local = false

-- the places of the cells that play a part, the first of the list standing at `place`
abbrev pub places_from : ℕ → (Part → Bool) → List CellData → List ℕ
places_from place plays [] = []
places_from place plays (c ∷ cs) =
    if plays c.part then place ∷ places_from (place + 1) plays cs else places_from (place + 1) plays cs

-- the places of a program's inputs, and of its outputs, in declared order
abbrev pub inputs_of : ProgramData → List ℕ
inputs_of p = places_from 0 is_input p.cells

abbrev pub outputs_of : ProgramData → List ℕ
outputs_of p = places_from 0 is_output p.cells
