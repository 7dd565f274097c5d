-- What is expected of an expression matters to its judgement only by the type that it then has.
use Rattle.std.proofs.Common.{◌≡◌, ℕ, ◌+◌, ◌&&◌, Bool, true, false, if◌then◌else◌, Option, Some, None, refl, ap, ◌∙◌}
use Rattle.plc_types.specs.declared.data_type.DataType.{DataType}
use Rattle.plc_types.specs.declared.data_type.DataType.TheVariants.{Elementary}
use Rattle.plc_types.specs.DataTypes.{is_same_type}
use Rattle.plc_types.specs.declared.elementary.Elementary.{Elementary as ElementaryType}
use Rattle.plc_types.specs.declared.function.StandardFunction.{StandardFunction}
use Rattle.plc_types.specs.declared.function.StandardFunction.TheVariants as functions
use Rattle.rules.specs.declared.rule.Rule.TheVariants.{OperandType, ArgumentCount}
use Rattle.naming.specs.Library.{standard_function}
use Rattle.source_tree.specs.Syntax.{Tree, literal, path, enumerator, paren, unary, chain, call, Arguments, no_arguments, argument}
use Rattle.rules.specs.Judgements.{Judgement, and, require}
use Rattle.typing.specs.declared.scope.Signature.{Signature}
use Rattle.typing.specs.Typing.{Scope, bool_type, or_else, or_dint, compares, synthesized, synthesized_of_first, synthesized_of_links, synthesized_of_call, synthesized_of_arguments, type_of, common_type, takes_operands, takes_count, count_of, place_of_literal}
use Rattle.typing.specs.Judged.{judged_literal, judged_unary, negative_literal, fit_from, judged_call, judged, judged_links, judged_arguments, judged_given, judged_alone}

-- the type that an expression has is its type where that type is expected
pub type_of-again : (scope : Scope) (expected : Option DataType) (e : Tree) → type_of scope (Some (type_of scope expected e)) e ≡ type_of scope expected e
type_of-again scope expected e = again (synthesized scope e) expected
  where
    again : (o w : Option DataType) → or_dint (or_else o (Some (or_dint (or_else o w)))) ≡ or_dint (or_else o w)
    again None w = refl
    again (Some t) w = refl

operands_for : (b : Bool) (o first links w v : Option DataType) → or_dint (or_else (if b then Some bool_type else or_else o links) w) ≡ or_dint (or_else (if b then Some bool_type else or_else o links) v)
    → (if b then or_dint (or_else o first) else or_dint (or_else (or_else o links) w)) ≡ (if b then or_dint (or_else o first) else or_dint (or_else (or_else o links) v))
operands_for true o first links w v h = refl
operands_for false o first links w v h = h

-- a conversion judges its argument by the type that it converts from
module _ (scope : Scope) (from to : ElementaryType) (t u : DataType) where
  converted : (place : ℕ) (args : Arguments) → judged_arguments scope (functions.Conversion from to) t place args ≡ judged_arguments scope (functions.Conversion from to) u place args
  converted place no_arguments = refl
  converted place (argument n e args) = ap (and (judged scope (Some (Elementary from)) e)) (converted (place + 1) args)

  converted_fit : (place : ℕ) (args : Arguments) → fit_from scope (functions.Conversion from to) t place args ≡ fit_from scope (functions.Conversion from to) u place args
  converted_fit place no_arguments = refl
  converted_fit place (argument n e args) = ap (λ (b : Bool). is_same_type (type_of scope (Some (Elementary from)) e) (Elementary from) && b) (converted_fit (place + 1) args)

module _ (scope : Scope) (w v : Option DataType) (at : ℕ) (s : Option Signature) (args : Arguments) where
  abbrev call_of : Option DataType → Option StandardFunction → Judgement
  call_of expected f = judged_call scope expected at f s args (judged_alone scope args) (λ g t. judged_arguments scope g t 0 args) (λ x. judged_given scope x 0 args)

  abbrev call_type : Option DataType → Option StandardFunction → DataType
  call_type expected f = or_dint (or_else (synthesized_of_call f s (λ g. synthesized_of_arguments scope g 0 args)) expected)

  abbrev operands_of : StandardFunction → DataType → Judgement
  operands_of f t =
      if takes_count f (count_of args) then require (judged_arguments scope f t 0 args) (takes_operands f t && fit_from scope f t 0 args) OperandType at
      else require (judged_alone scope args) false ArgumentCount at

  call-same : (f : Option StandardFunction) → call_type w f ≡ call_type v f → call_of w f ≡ call_of v f
  call-same None h = refl
  call-same (Some (functions.Conversion from to)) h =
      let f = functions.Conversion from to in
      let t = common_type scope w f args in
      let u = common_type scope v f args in
      ap (λ (j : Judgement). if takes_count f (count_of args) then require j (fit_from scope f t 0 args) OperandType at else require (judged_alone scope args) false ArgumentCount at) (converted scope from to t u 0 args)
      ∙ ap (λ (b : Bool). if takes_count f (count_of args) then require (judged_arguments scope f u 0 args) b OperandType at else require (judged_alone scope args) false ArgumentCount at) (converted_fit scope from to t u 0 args)
  call-same (Some functions.Absolute) h = ap (operands_of functions.Absolute) h
  call-same (Some functions.Minimum) h = ap (operands_of functions.Minimum) h
  call-same (Some functions.Maximum) h = ap (operands_of functions.Maximum) h
  call-same (Some functions.Limit) h = ap (operands_of functions.Limit) h
  call-same (Some functions.Select) h = ap (operands_of functions.Select) h
  call-same (Some (functions.Shift x)) h = ap (operands_of (functions.Shift x)) h

pub judged-same : (scope : Scope) (w v : Option DataType) (e : Tree) → type_of scope w e ≡ type_of scope v e → judged scope w e ≡ judged scope v e
judged-same scope w v (literal l) h = ap (λ (t : DataType). judged_literal t false (place_of_literal l) l) h
judged-same scope w v (path p) h = refl
judged-same scope w v (enumerator t n) h = refl
judged-same scope w v (paren at e) h = judged-same scope w v e h
judged-same scope w v (unary o at e) h = ap (λ (t : DataType). judged_unary t o at (negative_literal o e) (judged scope (Some t) e)) h
judged-same scope w v (chain e ls) h =
    ap (λ (t : DataType). judged_links scope t (judged scope (Some t) e) ls) (operands_for (compares ls) (synthesized scope e) (synthesized_of_first scope ls) (synthesized_of_links scope ls) w v h)
judged-same scope w v (call n at args) h = call-same scope w v n.at (scope.signature n.text) args (standard_function n.text) h

-- an expression is judged alike where the type that it has is expected
pub judged-again : (scope : Scope) (expected : Option DataType) (e : Tree) → judged scope (Some (type_of scope expected e)) e ≡ judged scope expected e
judged-again scope expected e = judged-same scope (Some (type_of scope expected e)) expected e (type_of-again scope expected e)
