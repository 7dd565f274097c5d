-- The types that operators and functions ask of their operands, and how many operands there are.
use Rattle.std.specs.Prelude.{ℕ, ◌+◌, Bool, true, not}
use Rattle.plc_types.specs.declared.elementary.Elementary.{Elementary}
use Rattle.plc_types.specs.declared.elementary.Elementary.TheVariants as types
use Rattle.plc_types.specs.declared.function.Function.{Function}
use Rattle.plc_types.specs.declared.function.Function.TheVariants as functions
use Rattle.plc_types.specs.declared.operator.Operator.{Operator}
use Rattle.plc_types.specs.declared.operator.Operator.TheVariants as ops
use Rattle.plc_types.specs.Types.{is_signed}
use Rattle.program_tree.specs.Tree.{Operands, no_operands, operand, Expressions, no_expressions, expression}

-- ---- operators

-- operators on bits are for BOOL and bit strings, whose numbers have no sign
abbrev pub is_for : Operator → Elementary → Bool
is_for ops.Or t = not (is_signed t)
is_for ops.Xor t = not (is_signed t)
is_for ops.And t = not (is_signed t)
is_for _ t = true

-- The type that the first operand of a chain has is that of its first operator. A chain without operators is its first operand.
abbrev pub first_kind : Elementary → Operands → Elementary
first_kind t no_operands = t
first_kind t (operand o k e os) = k

-- ---- functions

-- the type of a conversion's operand; a function that is no conversion has its own type
abbrev pub source_of : Function → Elementary → Elementary
source_of (functions.Convert from) t = from
source_of _ t = t

-- the type of a function's first operand; the others have the function's
abbrev pub first_operand_kind : Function → Elementary → Elementary
first_operand_kind functions.Select t = types.Bool
first_operand_kind f t = source_of f t

-- shifts are for bit strings, whose numbers have no sign
abbrev pub is_function_for : Function → Elementary → Bool
is_function_for (functions.Shift s n) t = not (is_signed t)
is_function_for _ t = true

-- how many operands or inputs there are
abbrev pub arity : Expressions → ℕ
arity no_expressions = 0
arity (expression e es) = arity es + 1
