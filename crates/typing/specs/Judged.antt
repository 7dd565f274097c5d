-- The rules on the types of expressions. A construct one of whose parts breaks a rule, or which uses a name whose declaration does,
-- breaks none itself.
use Rattle.std.specs.Prelude.{ℕ, zero, suc, ◌+◌, ◌==◌, unwrap_or, List, [], ◌∷◌, Bool, true, false, ◌&&◌, Option, Some, None, if◌then◌else◌}
use Rattle.std.specs.List.{list_any}
use Rattle.plc_types.specs.declared.data_type.DataType.{DataType}
use Rattle.plc_types.specs.declared.data_type.DataType.TheVariants.{Elementary}
use Rattle.plc_types.specs.DataTypes.{is_same_type, is_integer_type}
use Rattle.rules.specs.declared.rule.Rule.{Rule}
use Rattle.plc_types.specs.declared.function.StandardFunction.{StandardFunction}
use Rattle.naming.specs.Library.{standard_function}
use Rattle.rules.specs.declared.rule.Rule.TheVariants.{OperandType, ValueType, ArgumentCount, OutsideType, NotBool}
use Rattle.source_tree.specs.declared.syntax.Literal.{Literal}
use Rattle.plc_types.specs.declared.operator.UnaryOperator.{UnaryOperator}
use Rattle.plc_types.specs.declared.operator.UnaryOperator.TheVariants as signs
use Rattle.source_tree.specs.Syntax.{Named, Tree, literal, path, enumerator, paren, unary, chain, call, Links, no_links, link, Arguments, no_arguments, argument}
use Rattle.rules.specs.Judgements.{Judgement, ok, suppressed, and, breaks, require}
use Rattle.typing.specs.declared.scope.Meaning.{Meaning}
use Rattle.typing.specs.declared.scope.Port.{Port}
use Rattle.typing.specs.declared.scope.Signature.{Signature}
use Rattle.typing.specs.Typing.{Scope, by_path, by_value, bool_type, is_unknown, has_bits, port_type, type_of, operand_type, next_type, takes, Parameter, fixed, common, amount, parameter_of, common_type, takes_operands, takes_count, count_of, is_amount, is_literal_of, is_number, place_of_literal, place_of}

-- a literal is a value of its type; of one whose type is unknown nothing is said
abbrev pub judged_literal : DataType → Bool → ℕ → Literal → Judgement
judged_literal t minus at l = if is_unknown t then suppressed else (if is_literal_of t minus l then ok else breaks OutsideType at)

-- a name is whole where its declaration is
abbrev pub judged_meaning : Option Meaning → Judgement
judged_meaning None = suppressed
judged_meaning (Some m) = if m.whole then ok else suppressed

abbrev pub takes_sign : UnaryOperator → DataType → Bool
takes_sign signs.Minus t = is_integer_type t
takes_sign signs.Not t = has_bits t

-- a minus sign and a number are one literal
abbrev pub negative_literal : UnaryOperator → Tree → Option Literal
negative_literal signs.Minus (literal l) = if is_number l then Some l else None
negative_literal o e = None

-- a unary operator takes its operand's type; with a number behind it, a minus sign is part of the literal
abbrev pub judged_unary : DataType → UnaryOperator → ℕ → Option Literal → Judgement → Judgement
judged_unary t o at None operand = require operand (takes_sign o t) OperandType at
judged_unary t o at (Some l) operand = judged_literal t true at l

-- the type that is expected of an argument where the operands are of a type
abbrev pub expected_at : Parameter → DataType → Option DataType
expected_at (fixed k) t = Some (Elementary k)
expected_at common t = Some t
expected_at amount t = None

-- an argument is of the type that is expected
abbrev pub fits_at : Scope → Parameter → DataType → Tree → Bool
fits_at scope (fixed k) t e = is_same_type (type_of scope (Some (Elementary k)) e) (Elementary k)
fits_at scope common t e = is_same_type (type_of scope (Some t) e) t
fits_at scope amount t e = true

-- the arguments from a place on are of the types that are expected
abbrev pub fit_from : Scope → StandardFunction → DataType → ℕ → Arguments → Bool
fit_from scope f t place no_arguments = true
fit_from scope f t place (argument n e args) = fits_at scope (parameter_of f place) t e && fit_from scope f t (place + 1) args

-- the amount of a shift is a number from 0 to 64
abbrev pub judged_amount : Scope → Parameter → Tree → Judgement → Judgement
judged_amount scope (fixed k) e j = j
judged_amount scope common e j = j
judged_amount scope amount e j = require j (is_amount scope e) OutsideType (place_of e)

-- the place of the input that an argument is for: by place its own, and by name that of the name; there is no input from the number of
-- the inputs on
abbrev pub place_for : Scope → Signature → ℕ → Option Named → ℕ
place_for scope s place None = place
place_for scope s place (Some n) = unwrap_or (scope.input s.function n.text) s.count

abbrev pub places_for : Scope → Signature → ℕ → Arguments → List ℕ
places_for scope s place no_arguments = []
places_for scope s place (argument n e args) = place_for scope s place n ∷ places_for scope s (place + 1) args

-- all numbers below one are among some numbers
abbrev pub has_all_below : ℕ → List ℕ → Bool
has_all_below zero numbers = true
has_all_below (suc k) numbers = has_all_below k numbers && list_any (λ n. n == k) numbers

-- there are as many arguments as inputs, and one for each
abbrev pub gives_all : Scope → Signature → Arguments → Bool
gives_all scope s args = count_of args == s.count && has_all_below s.count (places_for scope s 0 args)

-- the type that is expected of an argument for an input; where there is no such input, none is
abbrev pub expected_by : Option Port → Option DataType
expected_by None = None
expected_by (Some p) = Some (port_type p)

-- an argument for an input whose declaration breaks a rule says nothing
abbrev pub judged_port : Option Port → Judgement
judged_port None = ok
judged_port (Some p) = if p.whole then ok else suppressed

abbrev pub fits_port : Scope → Option Port → Tree → Bool
fits_port scope None e = true
fits_port scope (Some p) e = is_same_type (type_of scope (Some (port_type p)) e) (port_type p)

-- an argument by name is of its input's type
abbrev pub judged_named : Option Named → Bool → Judgement → Judgement
judged_named None fits j = j
judged_named (Some n) fits j = require j fits ValueType n.at

-- so are the arguments by place from a place on
abbrev pub fits_placed : Scope → Signature → ℕ → Option Named → Tree → Bool
fits_placed scope s place None e = fits_port scope (scope.port s.function place) e
fits_placed scope s place (Some n) e = true

abbrev pub fit_placed : Scope → Signature → ℕ → Arguments → Bool
fit_placed scope s place no_arguments = true
fit_placed scope s place (argument n e args) = fits_placed scope s place n e && fit_placed scope s (place + 1) args

-- A call of a FUNCTION whose arguments were judged has one for each input, and those by place are of the types of their inputs; where
-- the type of its result breaks a rule it says nothing more.
abbrev pub judged_answer : Scope → ℕ → Signature → Arguments → Judgement → Judgement
judged_answer scope at s args parts =
    and (require (require parts (gives_all scope s args) ArgumentCount at) (fit_placed scope s 0 args) OperandType at) (judged_port (Some s.result))

abbrev pub judged_user_call : Scope → ℕ → Option Signature → Arguments → (Signature → Judgement) → Judgement
judged_user_call scope at None args of_inputs = suppressed
judged_user_call scope at (Some s) args of_inputs = judged_answer scope at s args (of_inputs s)

-- A call of a standard function has as many arguments as it takes, each of the type that is expected at its place. Where there are more or
-- fewer, each is judged alone.
abbrev pub judged_call : Scope → Option DataType → ℕ → Option StandardFunction → Option Signature → Arguments → Judgement → (StandardFunction → DataType → Judgement) → (Signature → Judgement) → Judgement
judged_call scope expected at None s args alone of_operands of_inputs = judged_user_call scope at s args of_inputs
judged_call scope expected at (Some f) s args alone of_operands of_inputs =
    let t = common_type scope expected f args in
    if takes_count f (count_of args) then require (of_operands f t) (takes_operands f t && fit_from scope f t 0 args) OperandType at
    else require alone false ArgumentCount at

-- An operator's operands are of one type that it takes. Operators of one level are judged from left to right: what stands to
-- the left of one is its left operand.
abbrev mutual
  pub judged : Scope → Option DataType → Tree → Judgement
  judged scope expected (literal l) = judged_literal (type_of scope expected (literal l)) false (place_of_literal l) l
  judged scope expected (path p) = judged_meaning (scope.means (by_path p))
  judged scope expected (enumerator t v) = judged_meaning (scope.means (by_value v))
  judged scope expected (paren at e) = judged scope expected e
  judged scope expected (unary o at e) = judged_unary (type_of scope expected e) o at (negative_literal o e) (judged scope (Some (type_of scope expected e)) e)
  judged scope expected (chain e ls) =
      let t = operand_type scope expected e ls in
      judged_links scope t (judged scope (Some t) e) ls
  judged scope expected (call n at args) =
      judged_call scope expected n.at (standard_function n.text) (scope.signature n.text) args (judged_alone scope args) (λ f t. judged_arguments scope f t 0 args) (λ s. judged_given scope s 0 args)

  -- operators behind a left operand that was judged
  pub judged_links : Scope → DataType → Judgement → Links → Judgement
  judged_links scope t left no_links = left
  judged_links scope t left (link o at e ls) =
      judged_links scope (next_type o t) (require (and left (judged scope (Some t) e)) (takes o t && is_same_type (type_of scope (Some t) e) t) OperandType at) ls

  -- arguments from a place on, where the operands are of a type
  pub judged_arguments : Scope → StandardFunction → DataType → ℕ → Arguments → Judgement
  judged_arguments scope f t place no_arguments = ok
  judged_arguments scope f t place (argument n e args) =
      and (judged_amount scope (parameter_of f place) e (judged scope (expected_at (parameter_of f place) t) e)) (judged_arguments scope f t (place + 1) args)

  -- arguments of a FUNCTION from a place on, each where the type of its input is expected
  pub judged_given : Scope → Signature → ℕ → Arguments → Judgement
  judged_given scope s place no_arguments = ok
  judged_given scope s place (argument n e args) =
      let p = scope.port s.function (place_for scope s place n) in
      and (judged_named n (fits_port scope p e) (and (judged scope (expected_by p) e) (judged_port p))) (judged_given scope s (place + 1) args)

  -- arguments each alone
  pub judged_alone : Scope → Arguments → Judgement
  judged_alone scope no_arguments = ok
  judged_alone scope (argument n e args) = and (judged scope None e) (judged_alone scope args)

-- a condition is BOOL
abbrev pub judged_condition : Scope → Rule → Tree → Judgement
judged_condition scope rule e = require (judged scope None e) (is_same_type (type_of scope None e) bool_type) rule (place_of e)

-- a clause is a BOOL expression
abbrev pub judged_clause : Scope → Tree → Judgement
judged_clause scope e = judged_condition scope NotBool e
