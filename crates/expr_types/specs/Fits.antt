-- Whether arguments are of the types that are expected, where their synthesized types are known.
use Rattle.std.specs.Prelude.{Bool, true, Option, Some, None}
use Rattle.plc_types.specs.declared.data_type.DataType.{DataType}
use Rattle.plc_types.specs.declared.data_type.DataType.TheVariants.{Elementary}
use Rattle.plc_types.specs.DataTypes.{is_same_type}
use Rattle.source_tree.specs.Syntax.{Named}
use Rattle.typing.specs.declared.scope.Port.{Port}
use Rattle.typing.specs.Typing.{or_else, or_dint, port_type, Parameter, fixed, common, amount}

-- of a standard function, where the operands are of a type
abbrev pub synthesized_fits : Parameter → DataType → Option DataType → Bool
synthesized_fits (fixed k) t o = is_same_type (or_dint (or_else o (Some (Elementary k)))) (Elementary k)
synthesized_fits common t o = is_same_type (or_dint (or_else o (Some t))) t
synthesized_fits amount t o = true

-- for an input of a FUNCTION
abbrev pub synthesized_fits_port : Option Port → Option DataType → Bool
synthesized_fits_port None o = true
synthesized_fits_port (Some p) o = is_same_type (or_dint (or_else o (Some (port_type p)))) (port_type p)

-- of those without a name
abbrev pub fits_unless_named : Option Named → Bool → Bool
fits_unless_named None fits = fits
fits_unless_named (Some n) fits = true
