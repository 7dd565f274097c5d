-- The typed expression that a tree stands for.
use Rattle.std.specs.Prelude.{ℕ, ◌+◌, List, [], ◌∷◌, slice_set, replicate, Bool, true, false, Option, Some, None, ℤ, pos}
use Rattle.plc_types.specs.declared.data_type.DataType.{DataType}
use Rattle.plc_types.specs.DataTypes.{carrier}
use Rattle.plc_types.specs.declared.function.Function.{Function}
use Rattle.plc_types.specs.declared.function.Function.TheVariants as typed_functions
use Rattle.plc_types.specs.declared.function.StandardFunction.{StandardFunction}
use Rattle.plc_types.specs.declared.function.StandardFunction.TheVariants as functions
use Rattle.naming.specs.Library.{standard_function}
use Rattle.source_tree.specs.declared.syntax.Literal.{Literal}
use Rattle.plc_types.specs.declared.operator.UnaryOperator.{UnaryOperator}
use Rattle.plc_types.specs.Types.{wrap_to}
use Rattle.source_tree.specs.Syntax.{Tree, literal, path, enumerator, paren, unary, chain, call, Links, no_links, link, Arguments, no_arguments, argument}
use Rattle.program_tree.specs.Tree.{Expression, number, cell, unary as typed_unary, chain as typed_chain, call_standard, call_function, Operands, no_operands, operand, Expressions, no_expressions, expression}
use Rattle.program_tree.specs.View.{expressions_of}
use Rattle.typing.specs.declared.scope.Meaning.{Meaning}
use Rattle.typing.specs.declared.scope.Signature.{Signature}
use Rattle.typing.specs.Typing.{Scope, by_path, by_value, type_of, operand_type, next_type, literal_value, negated, or_else, or_dint, Parameter, fixed, common, amount, parameter_of, result_of, common_type, number_in, amount_value}
use Rattle.typing.specs.Judged.{negative_literal, expected_at, place_for, expected_by}
use Rattle.typing.specs.declared.scope.Place.{Place}
use Rattle.typing.specs.declared.scope.Place.TheVariants as places

-- a literal's number; one that is a value of its type stays as it is
abbrev pub number_of : DataType → Bool → Literal → Expression
number_of t minus l = number (wrap_to (carrier t) (negated minus (literal_value l)))

abbrev pub typed_signed : DataType → UnaryOperator → Option Literal → Expression → Expression
typed_signed t o None e = typed_unary o (carrier t) e
typed_signed t o (Some l) e = number_of t true l

-- a cell is read, and a constant is its value
abbrev pub read_of : Place → Expression
read_of (places.Cell c) = cell c
read_of (places.Value v) = number v

abbrev pub meaning_read : Option Meaning → Expression
meaning_read None = cell 0
meaning_read (Some m) = read_of m.place

-- the amount of a shift: its second argument
abbrev pub amount_in : Arguments → ℕ
amount_in no_arguments = 0
amount_in (argument n e no_arguments) = 0
amount_in (argument n e (argument m amount_tree args)) = amount_value (number_in amount_tree)

-- the function of a typed program; a shift has its amount
abbrev pub function_of : StandardFunction → Arguments → Function
function_of (functions.Conversion from to) args = typed_functions.Convert from
function_of functions.Absolute args = typed_functions.Absolute
function_of functions.Minimum args = typed_functions.Minimum
function_of functions.Maximum args = typed_functions.Maximum
function_of functions.Limit args = typed_functions.Limit
function_of functions.Select args = typed_functions.Select
function_of (functions.Shift s) args = typed_functions.Shift s (amount_in args)

-- an amount is no operand
abbrev pub with_operand : Parameter → Expression → Expressions → Expressions
with_operand (fixed k) e es = expression e es
with_operand common e es = expression e es
with_operand amount e es = es

-- a typed argument, and the place of the input that it is for
abbrev pub PlacedData : Type 0
PlacedData = ℕ × Expression

-- arguments at their places
abbrev pub placed : List Expression → List PlacedData → List Expression
placed es [] = es
placed es (g ∷ gs) = placed (slice_set es g.0 g.1) gs

-- an answer, for values of all inputs in declared order; an input that is not given has 0
abbrev pub typed_answer : Option Signature → (Signature → List PlacedData) → Expression
typed_answer None given = number (pos 0)
typed_answer (Some s) given = call_function s.number (expressions_of (placed (replicate s.count (number (pos 0))) (given s)))

-- a call, where its operands are known by its function and their type
abbrev pub typed_result : Scope → Option DataType → Option StandardFunction → Option Signature → Arguments → (StandardFunction → DataType → Expressions) → (Signature → List PlacedData) → Expression
typed_result scope expected None s args operands given = typed_answer s given
typed_result scope expected (Some f) s args operands given =
    let t = common_type scope expected f args in
    call_standard (function_of f args) (carrier (or_dint (or_else (result_of f) (Some t)))) (operands f t)

abbrev mutual
  pub typed : Scope → Option DataType → Tree → Expression
  typed scope expected (literal l) = number_of (type_of scope expected (literal l)) false l
  typed scope expected (path p) = meaning_read (scope.means (by_path p))
  typed scope expected (enumerator t v) = meaning_read (scope.means (by_value v))
  typed scope expected (paren at e) = typed scope expected e
  typed scope expected (unary o at e) = typed_signed (type_of scope expected e) o (negative_literal o e) (typed scope (Some (type_of scope expected e)) e)
  typed scope expected (chain e ls) =
      let t = operand_type scope expected e ls in
      typed_chain (typed scope (Some t) e) (typed_links scope t ls)
  typed scope expected (call n at args) =
      typed_result scope expected (standard_function n.text) (scope.signature n.text) args (λ f t. typed_operands scope f t 0 args) (λ s. typed_given scope s 0 args)

  pub typed_links : Scope → DataType → Links → Operands
  typed_links scope t no_links = no_operands
  typed_links scope t (link o at e ls) = operand o (carrier t) (typed scope (Some t) e) (typed_links scope (next_type o t) ls)

  -- the operands among arguments from a place on
  pub typed_operands : Scope → StandardFunction → DataType → ℕ → Arguments → Expressions
  typed_operands scope f t place no_arguments = no_expressions
  typed_operands scope f t place (argument n e args) =
      with_operand (parameter_of f place) (typed scope (expected_at (parameter_of f place) t) e) (typed_operands scope f t (place + 1) args)

  -- arguments of a FUNCTION from a place on
  pub typed_given : Scope → Signature → ℕ → Arguments → List PlacedData
  typed_given scope s place no_arguments = []
  typed_given scope s place (argument n e args) =
      let to = place_for scope s place n in (to, typed scope (expected_by (scope.port s.function to)) e) ∷ typed_given scope s (place + 1) args

abbrev pub value_of_number : Expression → ℤ
value_of_number (number v) = v
value_of_number (cell place) = pos 0
value_of_number (typed_unary o t e) = pos 0
value_of_number (typed_chain e os) = pos 0
value_of_number (call_standard f t es) = pos 0
value_of_number (call_function f es) = pos 0

-- the value of a constant where a type is expected
abbrev pub constant_of : Scope → DataType → Tree → ℤ
constant_of scope t e = value_of_number (typed scope (Some t) e)
