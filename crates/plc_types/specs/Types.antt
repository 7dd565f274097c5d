-- The elementary types: the one table of their names, widths, signs and sorts, and the ranges of their values.
use Rattle.std.specs.Prelude.{ℕ, Bool, true, false, ◌&&◌, ℤ, int_le, List, [], ◌∷◌, codes, bytes_eq, Option, Some, None, if◌then◌else◌}
use Rattle.num_core.specs.Ranges.{lowest, highest}
use Rattle.num_core.specs.Wrapping.{wrap}
use Rattle.plc_types.specs.declared.elementary.Elementary.{Elementary}
use Rattle.plc_types.specs.declared.elementary.Elementary.TheVariants as types
use Rattle.plc_types.specs.declared.range.Range.{Range}

-- all of them
abbrev pub elementary_types : List Elementary
elementary_types =
    types.Bool
    ∷ types.Sint
    ∷ types.Int
    ∷ types.Dint
    ∷ types.Lint
    ∷ types.Usint
    ∷ types.Uint
    ∷ types.Udint
    ∷ types.Ulint
    ∷ types.Byte
    ∷ types.Word
    ∷ types.Dword
    ∷ types.Lword
    ∷ []

-- the names that the standard gives them
abbrev pub type_name : Elementary → List ℕ
type_name types.Bool = codes "BOOL"
type_name types.Sint = codes "SINT"
type_name types.Int = codes "INT"
type_name types.Dint = codes "DINT"
type_name types.Lint = codes "LINT"
type_name types.Usint = codes "USINT"
type_name types.Uint = codes "UINT"
type_name types.Udint = codes "UDINT"
type_name types.Ulint = codes "ULINT"
type_name types.Byte = codes "BYTE"
type_name types.Word = codes "WORD"
type_name types.Dword = codes "DWORD"
type_name types.Lword = codes "LWORD"

abbrev pub width_of : Elementary → ℕ
width_of types.Bool = 1
width_of types.Sint = 8
width_of types.Int = 16
width_of types.Dint = 32
width_of types.Lint = 64
width_of types.Usint = 8
width_of types.Uint = 16
width_of types.Udint = 32
width_of types.Ulint = 64
width_of types.Byte = 8
width_of types.Word = 16
width_of types.Dword = 32
width_of types.Lword = 64

abbrev pub is_signed : Elementary → Bool
is_signed types.Sint = true
is_signed types.Int = true
is_signed types.Dint = true
is_signed types.Lint = true
is_signed types.Bool = false
is_signed types.Usint = false
is_signed types.Uint = false
is_signed types.Udint = false
is_signed types.Ulint = false
is_signed types.Byte = false
is_signed types.Word = false
is_signed types.Dword = false
is_signed types.Lword = false

-- the integer types; the others are BOOL and the bit strings
abbrev pub is_integer : Elementary → Bool
is_integer types.Sint = true
is_integer types.Int = true
is_integer types.Dint = true
is_integer types.Lint = true
is_integer types.Usint = true
is_integer types.Uint = true
is_integer types.Udint = true
is_integer types.Ulint = true
is_integer types.Bool = false
is_integer types.Byte = false
is_integer types.Word = false
is_integer types.Dword = false
is_integer types.Lword = false

-- the type of a name, among these
abbrev pub type_among : List Elementary → List ℕ → Option Elementary
type_among [] text = None
type_among (t ∷ ts) text = if bytes_eq (type_name t) text then Some t else type_among ts text

abbrev pub type_named : List ℕ → Option Elementary
type_named text = type_among elementary_types text

abbrev pub least_of : Elementary → ℤ
least_of t = lowest (width_of t) (is_signed t)

abbrev pub greatest_of : Elementary → ℤ
greatest_of t = highest (width_of t) (is_signed t)

-- the values of a type
abbrev pub range_of : Elementary → Range
range_of t = record { low = least_of t; high = greatest_of t }

abbrev pub in_range : ℤ → Range → Bool
in_range v r = int_le r.low v && int_le v r.high

-- the value of the type that differs from v by a multiple of 2 to the type's width
abbrev pub wrap_to : Elementary → ℤ → ℤ
wrap_to t v = wrap (width_of t) (is_signed t) v
