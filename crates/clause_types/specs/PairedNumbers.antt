-- The enumerations of NEW by their numbers, as they are in a pair.
use Rattle.std.specs.Prelude.{ℕ, ◌+◌, List, [], ◌∷◌}
use Rattle.plc_types.specs.declared.data_type.DataType.{DataType}
use Rattle.plc_types.specs.Enumerations.{paired_number}

-- those of these names, which are counted from a number on
abbrev pub paired_numbers : List (List (List ℕ)) → ℕ → List (List (List ℕ)) → List DataType
paired_numbers old number [] = []
paired_numbers old number (ns ∷ rest) = paired_number old number ns ∷ paired_numbers old (number + 1) rest
