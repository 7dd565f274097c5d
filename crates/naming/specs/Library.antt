-- Names that each file's scope has from the start: standard functions and conversions.
use Rattle.std.specs.Prelude.{ℕ, List, [], ◌∷◌, codes, Bool, ◌==◌, Option, Some, None, is_some, option_and_then, if◌then◌else◌}
use Rattle.std.specs.Str.{bytes_eq}
use denote.Enum.Bare.{sameb}
use Rattle.plc_types.specs.contracts.elementary.Elementary.{the_type}
use Rattle.plc_types.specs.declared.elementary.Elementary.{Elementary}
use Rattle.plc_types.specs.declared.function.Shift.TheVariants as shifts
use Rattle.plc_types.specs.declared.function.StandardFunction.{StandardFunction}
use Rattle.plc_types.specs.declared.function.StandardFunction.TheVariants as functions
use Rattle.plc_types.specs.Types.{elementary_types, type_name, type_named}

-- the standard functions, but for the conversions
abbrev pub functions_by_name : List (List ℕ × StandardFunction)
functions_by_name =
    (codes "ABS", functions.Absolute)
    ∷ (codes "MIN", functions.Minimum)
    ∷ (codes "MAX", functions.Maximum)
    ∷ (codes "LIMIT", functions.Limit)
    ∷ (codes "SEL", functions.Select)
    ∷ (codes "SHL", functions.Shift shifts.Left)
    ∷ (codes "SHR", functions.Shift shifts.Right)
    ∷ (codes "ROL", functions.Shift shifts.RotateLeft)
    ∷ (codes "ROR", functions.Shift shifts.RotateRight)
    ∷ []

abbrev pub function_in : List (List ℕ × StandardFunction) → List ℕ → Option StandardFunction
function_in [] text = None
function_in (e ∷ es) text = if bytes_eq e.0 text then Some e.1 else function_in es text

-- what stands in a text behind a front of it
abbrev pub after_front : List ℕ → List ℕ → Option (List ℕ)
after_front [] text = Some text
after_front (b ∷ bs) [] = None
after_front (b ∷ bs) (c ∷ cs) = if b == c then after_front bs cs else None

-- there is a conversion between each two different types
abbrev pub conversion_to : Elementary → Option Elementary → Option StandardFunction
conversion_to from None = None
conversion_to from (Some to) = if sameb the_type from to then None else Some (functions.Conversion from to)

-- `A_TO_B`, A being this type, of this name
abbrev pub conversion_from : List ℕ → Elementary → List ℕ → Option StandardFunction
conversion_from name from text =
    conversion_to from (option_and_then type_named (option_and_then (after_front (codes "_TO_")) (after_front name text)))

-- the first of two, where there is one
abbrev pub either_function : Option StandardFunction → Option StandardFunction → Option StandardFunction
either_function (Some f) other = Some f
either_function None other = other

-- `A_TO_B`, A being one of these types
abbrev pub conversion_in : List Elementary → List ℕ → Option StandardFunction
conversion_in [] text = None
conversion_in (t ∷ ts) text = either_function (conversion_from (type_name t) t text) (conversion_in ts text)

-- the standard function of a name in upper case, conversions among them
unfoldable pub standard_function : List ℕ → Option StandardFunction
standard_function text = either_function (function_in functions_by_name text) (conversion_in elementary_types text)

-- a standard function or a conversion
abbrev pub is_library : List ℕ → Bool
is_library text = is_some (standard_function text)
