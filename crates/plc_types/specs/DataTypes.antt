-- Data types (IEC 61131-3, 2.3): elementary ones and enumerations.
use Rattle.std.specs.Prelude.{Bool, false, ◌==◌}
use denote.Enum.Bare.{sameb}
use Rattle.plc_types.specs.contracts.elementary.Elementary.{the_type}
use Rattle.plc_types.specs.declared.elementary.Elementary.{Elementary as ElementaryType}
use Rattle.plc_types.specs.declared.elementary.Elementary.TheVariants as types
use Rattle.plc_types.specs.declared.data_type.DataType.{DataType}
use Rattle.plc_types.specs.declared.data_type.DataType.TheVariants.{Elementary, Enumeration, Unknown}
use Rattle.plc_types.specs.Types.{is_integer}

-- the elementary type whose numbers the values are: those of an enumeration are of 8 bits, from 0 on in the order of its names
abbrev pub carrier : DataType → ElementaryType
carrier (Elementary k) = k
carrier (Enumeration n) = types.Usint
carrier Unknown = types.Usint

-- a type that is unknown is like none
abbrev pub is_same_type : DataType → DataType → Bool
is_same_type (Elementary k) (Elementary l) = sameb the_type k l
is_same_type (Enumeration m) (Enumeration n) = m == n
is_same_type _ _ = false

abbrev pub is_integer_type : DataType → Bool
is_integer_type (Elementary k) = is_integer k
is_integer_type (Enumeration n) = false
is_integer_type Unknown = false
