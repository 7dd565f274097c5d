-- The types of expressions (IEC 61131-3, 3.3.1).
use Rattle.std.specs.Prelude.{ℕ, List, ◌+◌, ◌==◌, ◌&&◌, nat_le, unsigned_abs, int_le, Bool, true, false, not, Option, Some, None, if◌then◌else◌, ℤ, pos, neg_ℤ}
use Rattle.plc_types.specs.declared.elementary.Elementary.{Elementary as ElementaryType}
use Rattle.plc_types.specs.declared.elementary.Elementary.TheVariants as types
use Rattle.plc_types.specs.declared.data_type.DataType.{DataType}
use Rattle.plc_types.specs.declared.data_type.DataType.TheVariants.{Elementary, Enumeration, Unknown}
use Rattle.plc_types.specs.DataTypes.{is_same_type, is_integer_type}
use Rattle.plc_types.specs.declared.operator.Operator.{Operator}
use Rattle.plc_types.specs.declared.operator.Operator.TheVariants as ops
use Rattle.plc_types.specs.declared.function.StandardFunction.{StandardFunction}
use Rattle.plc_types.specs.declared.function.StandardFunction.TheVariants as functions
use Rattle.source_tree.specs.declared.syntax.Literal.{Literal}
use Rattle.source_tree.specs.declared.syntax.Literal.TheVariants as literals
use Rattle.plc_types.specs.declared.operator.UnaryOperator.{UnaryOperator}
use Rattle.plc_types.specs.declared.operator.UnaryOperator.TheVariants as signs
use Rattle.plc_types.specs.Types.{is_integer, range_of, in_range}
use Rattle.source_tree.specs.Syntax.{Named, PathData, Tree, literal, path, enumerator, paren, unary, chain, call, Links, no_links, link, Arguments, no_arguments, argument}
use Rattle.naming.specs.Library.{standard_function}
use Rattle.typing.specs.declared.scope.Meaning.{Meaning}
use Rattle.typing.specs.declared.scope.Port.{Port}
use Rattle.typing.specs.declared.scope.Signature.{Signature}
use Rattle.typing.specs.declared.scope.Instance.{Instance}

abbrev pub bool_type : DataType
bool_type = Elementary types.Bool

-- a path, or `type#value`, by the value's name: no other type of its file has a value of that name
pub data Reference : Type 0 where
  by_path : PathData → Reference
  by_value : Named → Reference

-- What a scope says: what references stand for, where they stand for something; the FUNCTIONs that may be called, by their names; the
-- input of a FUNCTION at a place among its inputs, and the place of that of a name; and the instances of blocks, by their names.
pub record Scope : Type 0 where
  pub means : Reference → Option Meaning
  pub signature : List ℕ → Option Signature
  pub port : ℕ → ℕ → Option Port
  pub input : ℕ → List ℕ → Option ℕ
  pub instance : List ℕ → Option Instance

-- a scope in which nothing may be called
abbrev pub without_calls : (Reference → Option Meaning) → Scope
without_calls means =
    record { means = means; signature = λ text. None; port = λ function place. None; input = λ function text. None; instance = λ text. None }

-- the type of a name; that of a name whose declaration breaks a rule is unknown
abbrev pub kind_at : Option Meaning → Option DataType
kind_at None = None
kind_at (Some m) = Some (if m.whole then m.kind else Unknown)

-- the type of an input or a result; that of one whose declaration breaks a rule is unknown
abbrev pub port_type : Port → DataType
port_type p = if p.whole then p.kind else Unknown

-- the first of two types, where there is one
abbrev pub or_else : Option DataType → Option DataType → Option DataType
or_else (Some t) other = Some t
or_else None other = other

-- the synthesized type of a literal; a number without a type before it has none
abbrev pub synthesized_of_literal : Literal → Option DataType
synthesized_of_literal (literals.Number value at) = None
synthesized_of_literal (literals.Truth value at) = Some bool_type
synthesized_of_literal (literals.TypedNumber kind at minus value value_at) = Some (Elementary kind)
synthesized_of_literal (literals.TypedTruth kind at value value_at) = Some (Elementary kind)

abbrev pub is_comparison : Operator → Bool
is_comparison ops.Equal = true
is_comparison ops.NotEqual = true
is_comparison ops.Less = true
is_comparison ops.Greater = true
is_comparison ops.LessEqual = true
is_comparison ops.GreaterEqual = true
is_comparison _ = false

abbrev pub compares : Links → Bool
compares no_links = false
compares (link o at e ls) = is_comparison o

-- What a standard function takes at a place: a value of a type of its own, of the one type that its operands and
-- its result share, or the amount of a shift.
pub data Parameter : Type 0 where
  fixed : ElementaryType → Parameter
  common : Parameter
  amount : Parameter

-- the parameters of a function, by their places from 0
abbrev pub parameter_of : StandardFunction → ℕ → Parameter
parameter_of (functions.Conversion from to) place = fixed from
parameter_of functions.Absolute place = common
parameter_of functions.Minimum place = common
parameter_of functions.Maximum place = common
parameter_of functions.Limit place = common
parameter_of functions.Select place = if place == 0 then fixed types.Bool else common
parameter_of (functions.Shift s) place = if place == 1 then amount else common

-- the type of a conversion's result; that of any other function is the one type of its operands
abbrev pub result_of : StandardFunction → Option DataType
result_of (functions.Conversion from to) = Some (Elementary to)
result_of functions.Absolute = None
result_of functions.Minimum = None
result_of functions.Maximum = None
result_of functions.Limit = None
result_of functions.Select = None
result_of (functions.Shift s) = None

-- the synthesized type of an argument, where it is an operand of the one type
abbrev pub synthesized_if_common : Parameter → Option DataType → Option DataType
synthesized_if_common (fixed t) synthesized = None
synthesized_if_common common synthesized = synthesized
synthesized_if_common amount synthesized = None

-- the synthesized type of a FUNCTION's answer
abbrev pub synthesized_of_answer : Option Signature → Option DataType
synthesized_of_answer None = None
synthesized_of_answer (Some s) = Some (port_type s.result)

-- the synthesized type of a call, where that of its operands is known by its function
abbrev pub synthesized_of_call : Option StandardFunction → Option Signature → (StandardFunction → Option DataType) → Option DataType
synthesized_of_call None s of_operands = synthesized_of_answer s
synthesized_of_call (Some f) s of_operands = or_else (result_of f) (of_operands f)

-- The synthesized type of a comparison is BOOL, that of any other operator expression is that of its leftmost operand that has one, and
-- that of a call is the type of its result, or that of its leftmost operand of the one type that has one.
abbrev mutual
  pub synthesized : Scope → Tree → Option DataType
  synthesized scope (literal l) = synthesized_of_literal l
  synthesized scope (path p) = kind_at (scope.means (by_path p))
  synthesized scope (enumerator t v) = kind_at (scope.means (by_value v))
  synthesized scope (paren at e) = synthesized scope e
  synthesized scope (unary o at e) = synthesized scope e
  synthesized scope (chain e ls) = if compares ls then Some bool_type else or_else (synthesized scope e) (synthesized_of_links scope ls)
  synthesized scope (call n at args) = synthesized_of_call (standard_function n.text) (scope.signature n.text) (λ f. synthesized_of_arguments scope f 0 args)

  -- of the leftmost operand that has one
  pub synthesized_of_links : Scope → Links → Option DataType
  synthesized_of_links scope no_links = None
  synthesized_of_links scope (link o at e ls) = or_else (synthesized scope e) (synthesized_of_links scope ls)

  -- of the leftmost operand of the one type that has one, among arguments from a place on
  pub synthesized_of_arguments : Scope → StandardFunction → ℕ → Arguments → Option DataType
  synthesized_of_arguments scope f place no_arguments = None
  synthesized_of_arguments scope f place (argument n e args) =
      or_else (synthesized_if_common (parameter_of f place) (synthesized scope e)) (synthesized_of_arguments scope f (place + 1) args)

-- an untyped literal takes the type that is expected, else DINT
abbrev pub or_dint : Option DataType → DataType
or_dint None = Elementary types.Dint
or_dint (Some t) = t

-- the type of an expression where a type is expected, or none
abbrev pub type_of : Scope → Option DataType → Tree → DataType
type_of scope expected e = or_dint (or_else (synthesized scope e) expected)

-- the one type of a call's operands: that of the leftmost that has one, else the expected one
abbrev pub common_type : Scope → Option DataType → StandardFunction → Arguments → DataType
common_type scope expected f args = or_dint (or_else (synthesized_of_arguments scope f 0 args) expected)

abbrev pub synthesized_of_first : Scope → Links → Option DataType
synthesized_of_first scope no_links = None
synthesized_of_first scope (link o at e ls) = synthesized scope e

-- The type of the operands of a chain: that of its leftmost operand that has one, else the expected one; of a
-- comparison that of either of its first two operands.
abbrev pub operand_type : Scope → Option DataType → Tree → Links → DataType
operand_type scope expected e ls =
    if compares ls then or_dint (or_else (synthesized scope e) (synthesized_of_first scope ls))
    else or_dint (or_else (or_else (synthesized scope e) (synthesized_of_links scope ls)) expected)

-- a further comparison compares what the one before it says
abbrev pub next_type : Operator → DataType → DataType
next_type o t = if is_comparison o then bool_type else t

-- BOOL and the bit strings
abbrev pub has_bits : DataType → Bool
has_bits (Elementary k) = not (is_integer k)
has_bits (Enumeration n) = false
has_bits Unknown = false

-- values of these types have an order
abbrev pub is_ordered : DataType → Bool
is_ordered (Elementary k) = true
is_ordered (Enumeration n) = false
is_ordered Unknown = false

-- Which types an operator takes: arithmetic the integer types, AND, OR and XOR those with bits, `=` and `<>` all, and the
-- other comparisons all but enumerations.
abbrev pub takes : Operator → DataType → Bool
takes ops.Or t = has_bits t
takes ops.Xor t = has_bits t
takes ops.And t = has_bits t
takes ops.Plus t = is_integer_type t
takes ops.Minus t = is_integer_type t
takes ops.Times t = is_integer_type t
takes ops.Divide t = is_integer_type t
takes ops.Mod t = is_integer_type t
takes ops.Equal t = true
takes ops.NotEqual t = true
takes ops.Less t = is_ordered t
takes ops.Greater t = is_ordered t
takes ops.LessEqual t = is_ordered t
takes ops.GreaterEqual t = is_ordered t

abbrev pub is_bool : DataType → Bool
is_bool t = is_same_type t bool_type

-- a bit string of more than one bit
abbrev pub is_bit_string : DataType → Bool
is_bit_string t = has_bits t && not (is_bool t)

-- a number of an integer type, or a bit string of more than one bit
abbrev pub is_number_type : DataType → Bool
is_number_type t = is_ordered t && not (is_bool t)

-- which types the operands of a function may be of
abbrev pub takes_operands : StandardFunction → DataType → Bool
takes_operands (functions.Conversion from to) t = true
takes_operands functions.Absolute t = is_integer_type t
takes_operands functions.Minimum t = is_number_type t
takes_operands functions.Maximum t = is_number_type t
takes_operands functions.Limit t = is_number_type t
takes_operands functions.Select t = true
takes_operands (functions.Shift s) t = is_bit_string t

-- how many arguments a function takes
abbrev pub takes_count : StandardFunction → ℕ → Bool
takes_count (functions.Conversion from to) count = count == 1
takes_count functions.Absolute count = count == 1
takes_count functions.Minimum count = nat_le 2 count
takes_count functions.Maximum count = nat_le 2 count
takes_count functions.Limit count = count == 3
takes_count functions.Select count = count == 3
takes_count (functions.Shift s) count = count == 2

abbrev pub count_of : Arguments → ℕ
count_of no_arguments = 0
count_of (argument n e args) = count_of args + 1

abbrev pub negated : Bool → ℤ → ℤ
negated minus v = if minus then neg_ℤ v else v

abbrev pub is_minus : Option ℕ → Bool
is_minus None = false
is_minus (Some at) = true

abbrev pub truth_value : Bool → ℤ
truth_value b = if b then pos 1 else pos 0

-- the value of a literal
abbrev pub literal_value : Literal → ℤ
literal_value (literals.Number value at) = pos value
literal_value (literals.Truth value at) = truth_value value
literal_value (literals.TypedNumber kind at minus value value_at) = negated (is_minus minus) (pos value)
literal_value (literals.TypedTruth kind at value value_at) = truth_value value

abbrev pub is_unknown : DataType → Bool
is_unknown (Elementary k) = false
is_unknown (Enumeration n) = false
is_unknown Unknown = true

-- a number is a value of an elementary type where it is in its range, and of no other
abbrev pub is_number_of : DataType → ℤ → Bool
is_number_of (Elementary k) v = in_range v (range_of k)
is_number_of (Enumeration n) v = false
is_number_of Unknown v = false

-- TRUE and FALSE are values of BOOL alone
abbrev pub is_literal_of : DataType → Bool → Literal → Bool
is_literal_of t minus (literals.Truth value at) = true
is_literal_of t minus (literals.TypedTruth kind at value value_at) = is_bool (Elementary kind)
is_literal_of t minus l = is_number_of t (negated minus (literal_value l))

-- a minus sign before a number, typed or not, makes the negative literal
abbrev pub is_number : Literal → Bool
is_number (literals.Number value at) = true
is_number (literals.Truth value at) = false
is_number (literals.TypedNumber kind at minus value value_at) = true
is_number (literals.TypedTruth kind at value value_at) = false

abbrev pub place_of_literal : Literal → ℕ
place_of_literal (literals.Number value at) = at
place_of_literal (literals.Truth value at) = at
place_of_literal (literals.TypedNumber kind at minus value value_at) = at
place_of_literal (literals.TypedTruth kind at value value_at) = at

-- the place of an expression's first token
abbrev pub place_of : Tree → ℕ
place_of (literal l) = place_of_literal l
place_of (path p) = p.first.at
place_of (enumerator t v) = t.at
place_of (paren at e) = at
place_of (unary o at e) = at
place_of (chain e ls) = place_of e
place_of (call n at args) = n.at

-- the value of a number, with a minus sign before it or not
abbrev pub signed_number : UnaryOperator → Tree → Option ℤ
signed_number signs.Minus (literal l) = if is_number l then Some (negated true (literal_value l)) else None
signed_number o e = None

abbrev pub number_in : Tree → Option ℤ
number_in (literal l) = if is_number l then Some (literal_value l) else None
number_in (path p) = None
number_in (enumerator t v) = None
number_in (paren at e) = None
number_in (unary o at e) = signed_number o e
number_in (chain e ls) = None
number_in (call n at args) = None

abbrev pub is_amount_value : Option ℤ → Bool
is_amount_value None = false
is_amount_value (Some v) = int_le (pos 0) v && int_le v (pos 64)

-- the amount of a shift is a number from 0 to 64, that is no BOOL
abbrev pub is_amount : Scope → Tree → Bool
is_amount scope e = is_amount_value (number_in e) && not (is_bool (type_of scope None e))

abbrev pub amount_value : Option ℤ → ℕ
amount_value None = 0
amount_value (Some v) = if is_amount_value (Some v) then unsigned_abs v else 0
