-- The value of an expression in a state, and whether its evaluation meets a fault (IEC 61131-3, 3.3.1 and 2.5.1).
-- A state is that of an owner: a PROGRAM, or a call of a FUNCTION. Its first cell is FAULT. The cells of a POU stand among its owner's,
-- from a base on: those of a PROGRAM or FUNCTION from 0 on, and those of a FUNCTION_BLOCK where its instance begins.
use Rattle.std.specs.Prelude.{ℕ, ◌+◌, ◌*◌, ◌-◌, ◌^◌, ◌/◌, ◌%◌, nat_lt, List, [], ◌∷◌, Bool, true, false, not, ◌&&◌, ◌||◌, slice_index_or, ℤ, pos, neg_ℤ, ◌+ℤ◌, ◌-ℤ◌, ◌*ℤ◌, int_le, int_lt, unsigned_abs, bit_and, bit_or, bit_xor, if◌then◌else◌, Option, Some, None}
use Rattle.std.specs.Ordering.{int_eq}
use Rattle.program_tree.specs.num_core.Division.{quot, rem}
use Rattle.program_tree.specs.plc_types.declared.elementary.Elementary.{Elementary}
use Rattle.program_tree.specs.plc_types.declared.elementary.Elementary.TheVariants as types
use Rattle.program_tree.specs.plc_types.declared.function.Function.{Function}
use Rattle.program_tree.specs.plc_types.declared.function.Function.TheVariants as functions
use Rattle.program_tree.specs.plc_types.declared.function.Shift.{Shift}
use Rattle.program_tree.specs.plc_types.declared.function.Shift.TheVariants as shifts
use Rattle.program_tree.specs.plc_types.declared.range.Range.{Range}
use Rattle.program_tree.specs.plc_types.declared.operator.UnaryOperator.{UnaryOperator}
use Rattle.program_tree.specs.plc_types.declared.operator.UnaryOperator.TheVariants as signs
use Rattle.program_tree.specs.plc_types.declared.operator.Operator.{Operator}
use Rattle.program_tree.specs.plc_types.declared.operator.Operator.TheVariants as ops
use Rattle.program_tree.specs.Tree.{Expression, number, cell, unary, chain, call_standard, call_function, Operands, no_operands, operand, Expressions, no_expressions, expression}
use Rattle.program_tree.specs.plc_types.Types.{width_of, wrap_to}

-- the values of an owner's cells, in order, FAULT first
abbrev pub State : Type 0
State = List ℤ

-- FALSE is 0, and TRUE is 1
abbrev pub number_of : Bool → ℤ
number_of b = if b then pos 1 else pos 0

abbrev pub is_truth : ℤ → Bool
is_truth v = int_eq v (pos 1)

abbrev pub is_zero : ℤ → Bool
is_zero v = int_eq v (pos 0)

-- what a division by zero gives
abbrev pub or_zero : Option ℤ → ℤ
or_zero None = pos 0
or_zero (Some v) = v

-- the result of a unary operator before it is wrapped; -v - 1 turns each bit of v
abbrev pub unary_result : UnaryOperator → ℤ → ℤ
unary_result signs.Minus v = neg_ℤ v
unary_result signs.Not v = neg_ℤ v -ℤ pos 1

-- the result of a binary operator before it is wrapped; values of bit strings are not below 0
abbrev pub binary_result : Operator → ℤ → ℤ → ℤ
binary_result ops.Or v w = pos (bit_or (unsigned_abs v) (unsigned_abs w))
binary_result ops.Xor v w = pos (bit_xor (unsigned_abs v) (unsigned_abs w))
binary_result ops.And v w = pos (bit_and (unsigned_abs v) (unsigned_abs w))
binary_result ops.Equal v w = number_of (int_eq v w)
binary_result ops.NotEqual v w = number_of (not (int_eq v w))
binary_result ops.Less v w = number_of (int_lt v w)
binary_result ops.Greater v w = number_of (int_lt w v)
binary_result ops.LessEqual v w = number_of (int_le v w)
binary_result ops.GreaterEqual v w = number_of (int_le w v)
binary_result ops.Plus v w = v +ℤ w
binary_result ops.Minus v w = v -ℤ w
binary_result ops.Times v w = v *ℤ w
binary_result ops.Divide v w = or_zero (quot v w)
binary_result ops.Mod v w = or_zero (rem v w)

-- the type of a result: BOOL for comparisons, else the type of the operands
abbrev pub result_type : Operator → Elementary → Elementary
result_type ops.Or t = t
result_type ops.Xor t = t
result_type ops.And t = t
result_type ops.Equal t = types.Bool
result_type ops.NotEqual t = types.Bool
result_type ops.Less t = types.Bool
result_type ops.Greater t = types.Bool
result_type ops.LessEqual t = types.Bool
result_type ops.GreaterEqual t = types.Bool
result_type ops.Plus t = t
result_type ops.Minus t = t
result_type ops.Times t = t
result_type ops.Divide t = t
result_type ops.Mod t = t

-- what an operator makes of values of a type
abbrev pub unary_applied : UnaryOperator → Elementary → ℤ → ℤ
unary_applied o t v = wrap_to t (unary_result o v)

abbrev pub applied : Operator → Elementary → ℤ → ℤ → ℤ
applied o t v w = wrap_to (result_type o t) (binary_result o v w)

abbrev pub divides : Operator → Bool
divides ops.Or = false
divides ops.Xor = false
divides ops.And = false
divides ops.Equal = false
divides ops.NotEqual = false
divides ops.Less = false
divides ops.Greater = false
divides ops.LessEqual = false
divides ops.GreaterEqual = false
divides ops.Plus = false
divides ops.Minus = false
divides ops.Times = false
divides ops.Divide = true
divides ops.Mod = true

-- a division by zero is a fault
abbrev pub divides_by_zero : Operator → ℤ → Bool
divides_by_zero o v = divides o && is_zero v

-- to BOOL a conversion tells whether a value is not 0
abbrev pub converted : Elementary → ℤ → ℤ
converted types.Bool v = number_of (not (is_zero v))
converted _ v = v

-- The bits of v moved n places to the left; bits that leave are lost once the result is wrapped to its width.
abbrev pub moved_left : ℕ → ℕ → ℕ
moved_left n v = v * 2 ^ n

abbrev pub moved_right : ℕ → ℕ → ℕ
moved_right n v = v / 2 ^ n

-- a rotation to the left, of bits that are so many; those that leave come back at the other end
abbrev pub rotated : ℕ → ℕ → ℕ → ℕ
rotated width n v = moved_left n v + moved_right (width - n) v

-- a shift by the width or more loses all bits; a rotation goes by its amount modulo the width
abbrev pub shifted : Shift → ℕ → ℕ → ℕ → ℕ
shifted shifts.Left width n v = if nat_lt n width then moved_left n v else 0
shifted shifts.Right width n v = if nat_lt n width then moved_right n v else 0
shifted shifts.RotateLeft width n v = rotated width (n % width) v
shifted shifts.RotateRight width n v = rotated width (width - n % width) v

abbrev pub lesser : ℤ → ℤ → ℤ
lesser v w = if int_lt w v then w else v

abbrev pub greater : ℤ → ℤ → ℤ
greater v w = if int_lt v w then w else v

-- the least and the greatest of a value and others
abbrev pub least : ℤ → List ℤ → ℤ
least v [] = v
least v (w ∷ ws) = least (lesser v w) ws

abbrev pub greatest : ℤ → List ℤ → ℤ
greatest v [] = v
greatest v (w ∷ ws) = greatest (greater v w) ws

-- what a function makes of one operand, of a first and others, or of three; 0 where there are not as many
abbrev pub of_one : (ℤ → ℤ) → List ℤ → ℤ
of_one f [] = pos 0
of_one f (v ∷ []) = f v
of_one f (v ∷ w ∷ ws) = pos 0

abbrev pub of_many : (ℤ → List ℤ → ℤ) → List ℤ → ℤ
of_many f [] = pos 0
of_many f (v ∷ vs) = f v vs

abbrev pub of_three : (ℤ → ℤ → ℤ → ℤ) → List ℤ → ℤ
of_three f [] = pos 0
of_three f (u ∷ []) = pos 0
of_three f (u ∷ v ∷ []) = pos 0
of_three f (u ∷ v ∷ w ∷ []) = f u v w
of_three f (u ∷ v ∷ w ∷ x ∷ xs) = pos 0

abbrev pub limited : ℤ → ℤ → ℤ → ℤ
limited low v high = lesser (greater v low) high

abbrev pub selected : ℤ → ℤ → ℤ → ℤ
selected g v w = if is_truth g then w else v

-- the result of a function of a type before it is wrapped
abbrev pub function_result : Function → Elementary → List ℤ → ℤ
function_result (functions.Convert from) t vs = of_one (converted t) vs
function_result functions.Absolute t vs = of_one (λ v. pos (unsigned_abs v)) vs
function_result functions.Minimum t vs = of_many least vs
function_result functions.Maximum t vs = of_many greatest vs
function_result functions.Limit t vs = of_three limited vs
function_result functions.Select t vs = of_three selected vs
function_result (functions.Shift s n) t vs = of_one (λ v. pos (shifted s (width_of t) n (unsigned_abs v))) vs

-- what a function makes of values
abbrev pub called : Function → Elementary → List ℤ → ℤ
called f t vs = wrap_to t (function_result f t vs)

-- What the POUs that may be called do: how a run of the body of a FUNCTION_BLOCK, by its number, changes a state of its owner, whose
-- cells have these ranges, where the instance begins at a base; and the state in which a call of a FUNCTION, by its number, ends,
-- given the values of its inputs.
pub record Callees : Type 0 where
  pub runs : ℕ → List Range → ℕ → State → State
  pub ends : ℕ → List ℤ → State

-- where nothing may be called
abbrev pub no_callees : Callees
no_callees = record { runs = λ b rs base s. s; ends = λ f vs. [] }

-- the first cell of a FUNCTION is FAULT, and the second is what it answers
abbrev pub fault_in : State → Bool
fault_in s = is_truth (slice_index_or s 0 (pos 0))

abbrev pub answer_in : State → ℤ
answer_in s = slice_index_or s 1 (pos 0)

abbrev mutual
  pub value_of : Callees → ℕ → Expression → State → ℤ
  value_of callees base (number v) s = v
  value_of callees base (cell place) s = slice_index_or s (base + place) (pos 0)
  value_of callees base (unary o t e) s = unary_applied o t (value_of callees base e s)
  value_of callees base (chain e os) s = value_on callees base (value_of callees base e s) os s
  value_of callees base (call_standard f t es) s = called f t (values_of callees base es s)
  value_of callees base (call_function f es) s = answer_in (callees.ends f (values_of callees base es s))

  -- operands are joined from left to right
  pub value_on : Callees → ℕ → ℤ → Operands → State → ℤ
  value_on callees base v no_operands s = v
  value_on callees base v (operand o t e os) s = value_on callees base (applied o t v (value_of callees base e s)) os s

  pub values_of : Callees → ℕ → Expressions → State → List ℤ
  values_of callees base no_expressions s = []
  values_of callees base (expression e es) s = value_of callees base e s ∷ values_of callees base es s

-- All operands are evaluated, and a fault of one is a fault of the whole; so is a fault in the run of a FUNCTION.
abbrev mutual
  pub faults : Callees → ℕ → Expression → State → Bool
  faults callees base (number v) s = false
  faults callees base (cell place) s = false
  faults callees base (unary o t e) s = faults callees base e s
  faults callees base (chain e os) s = faults callees base e s || any_faults callees base os s
  faults callees base (call_standard f t es) s = one_faults callees base es s
  faults callees base (call_function f es) s = one_faults callees base es s || fault_in (callees.ends f (values_of callees base es s))

  pub any_faults : Callees → ℕ → Operands → State → Bool
  any_faults callees base no_operands s = false
  any_faults callees base (operand o t e os) s =
      faults callees base e s || divides_by_zero o (value_of callees base e s) || any_faults callees base os s

  pub one_faults : Callees → ℕ → Expressions → State → Bool
  one_faults callees base no_expressions s = false
  one_faults callees base (expression e es) s = faults callees base e s || one_faults callees base es s
