-- The enumerations of a pair of programs. Two are one data type where they have the same names in the same order.
use Rattle.std.specs.Prelude.{ℕ, ◌+◌, List, [], ◌∷◌, length, Bool, true, false, ◌&&◌, Option, Some, None, option_and_then, unwrap_or, if◌then◌else◌}
use Rattle.std.specs.List.{slice_get}
use Rattle.std.specs.Str.{bytes_eq}
use Rattle.plc_types.specs.declared.data_type.DataType.{DataType}
use Rattle.plc_types.specs.declared.data_type.DataType.TheVariants.{Elementary, Enumeration, Unknown}

-- the place of a name among names that are counted from a place on
abbrev pub place_of_name : List ℕ → ℕ → List (List ℕ) → Option ℕ
place_of_name text place [] = None
place_of_name text place (n ∷ ns) = if bytes_eq n text then Some place else place_of_name text (place + 1) ns

-- the type that has a value of a name, among types that are counted from a number on, and the value's number
abbrev pub or_in_later : Option ℕ → ℕ → Option (ℕ × ℕ) → Option (ℕ × ℕ)
or_in_later (Some k) number later = Some (number, k)
or_in_later None number later = later

abbrev pub value_named : List ℕ → ℕ → List (List (List ℕ)) → Option (ℕ × ℕ)
value_named text number [] = None
value_named text number (ns ∷ rest) = or_in_later (place_of_name text 0 ns) number (value_named text (number + 1) rest)

abbrev pub are_same_names : List (List ℕ) → List (List ℕ) → Bool
are_same_names [] [] = true
are_same_names [] (n ∷ ns) = false
are_same_names (m ∷ ms) [] = false
are_same_names (m ∷ ms) (n ∷ ns) = bytes_eq m n && are_same_names ms ns

abbrev pub names_at : List (List (List ℕ)) → ℕ → List (List ℕ)
names_at types number = unwrap_or (slice_get types number) []

-- The type of OLD that has these names: the one that has the first of them as a value, if it has the same names in the same order.
abbrev pub if_same : List (List (List ℕ)) → List (List ℕ) → ℕ × ℕ → Option ℕ
if_same old ns v = if are_same_names (names_at old v.0) ns then Some v.0 else None

abbrev pub old_type_of : List (List (List ℕ)) → List (List ℕ) → Option ℕ
old_type_of old [] = None
old_type_of old (n ∷ ns) = option_and_then (if_same old (n ∷ ns)) (value_named n 0 old)

-- A data type of NEW in a pair: an enumeration that OLD has is OLD's, and any other is numbered behind those of OLD. A number that no
-- enumeration of NEW has stands for no type.
abbrev pub paired_number : List (List (List ℕ)) → ℕ → List (List ℕ) → DataType
paired_number old n [] = Unknown
paired_number old n (m ∷ ms) = Enumeration (unwrap_or (old_type_of old (m ∷ ms)) (length old + n))

abbrev pub paired_type : List (List (List ℕ)) → List (List (List ℕ)) → DataType → DataType
paired_type old new (Elementary k) = Elementary k
paired_type old new (Enumeration n) = paired_number old n (names_at new n)
paired_type old new Unknown = Unknown
