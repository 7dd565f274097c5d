-- What the names of a POU are bound to.
use Rattle.std.specs.Prelude.{ℕ, ◌+◌, List, [], ◌∷◌, Option, option_map, unwrap_or}
use Rattle.std.specs.List.{position_from}
use Rattle.source_tree.specs.Syntax.{types, pou, FileData}
use Rattle.naming.specs.Broken.{is_program_pou}
use Rattle.naming.specs.FileScope.{pous_of, pou_at}
use Rattle.naming.specs.Scopes.{Variable, variables_in_pou}
use Rattle.naming.specs.Slots.{found}

abbrev pub bound_of : ℕ × Variable → ℕ
bound_of f = f.0

-- a name is bound to the first variable of that name, by its number in declared order, from 1
abbrev pub bound_named : List Variable → List ℕ → Option ℕ
bound_named vs text = option_map bound_of (found text 1 vs)

-- the variables of the POU of a number, in declared order; none where there is no such POU
abbrev pub variables_at : FileData → ℕ → List Variable
variables_at f number = unwrap_or (option_map variables_in_pou (pou_at f number)) []

-- the number of the first PROGRAM of a file
abbrev pub program_number : FileData → Option ℕ
program_number f = position_from is_program_pou 0 (pous_of f)

-- the places of POUs among items, which are counted from a number on
abbrev pub places_from : ℕ → FileData → List ℕ
places_from number [] = []
places_from number (types ds ∷ is) = places_from (number + 1) is
places_from number (pou p ∷ is) = number ∷ places_from (number + 1) is
