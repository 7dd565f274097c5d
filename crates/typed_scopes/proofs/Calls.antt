-- Calls: of a standard function, or of a FUNCTION.
use Rattle.std.proofs.Common.{◌≡◌, ℕ, ℤ, Bool, true, false, ◌&&◌, if◌then◌else◌, Option, Some, None, refl, subst}
use Rattle.std.proofs.lemmas.Bool.{and_parts, false≢true}
use Rattle.plc_types.specs.declared.data_type.DataType.{DataType}
use Rattle.plc_types.specs.declared.function.StandardFunction.{StandardFunction}
use Rattle.plc_types.specs.declared.function.StandardFunction.TheVariants as functions
use Rattle.source_tree.specs.Syntax.{Arguments}
use Rattle.rules.specs.declared.rule.Rule.TheVariants.{OperandType, ArgumentCount}
use Rattle.rules.specs.Judgements.{Judgement, require}
use Rattle.typing.specs.declared.scope.Signature.{Signature}
use Rattle.typing.specs.Typing.{Scope, synthesized_of_call, synthesized_of_arguments, or_else, or_dint, result_of, common_type, takes_operands, takes_count, count_of}
use Rattle.typing.specs.Judged.{fit_from, judged_call, judged_arguments, judged_given, judged_alone}
use Rattle.typing.specs.Typed.{typed_result, typed_operands, typed_given}
use Rattle.typed_programs.specs.Scopes.{Pous, BodyScope}
use Rattle.typed_scopes.specs.Fitting.{SignatureFits}
use Rattle.typed_scopes.proofs.Wholes.{whole_require}
use Rattle.typed_scopes.proofs.TypedValues.{IsValueIf}
use Rattle.typed_scopes.proofs.StandardCalls.{AreOperandValues, standard_is}
use Rattle.typed_scopes.proofs.GivenInputs.{AreGivenValues}
use Rattle.typed_scopes.proofs.Answers.{answer_is}

-- a call with as many arguments as its function takes; with more or fewer it is not whole
counted_call : (c : Bool) (right alone : Judgement) (at : ℕ) → (if c then right else require alone false ArgumentCount at).whole ≡ true → (c ≡ true) × (right.whole ≡ true)
counted_call true right alone at whole = (refl, whole)
counted_call false right alone at whole = absurd (false≢true (whole_require alone false ArgumentCount at whole).1)

-- the type of a call is that of its result
call_type : (f : StandardFunction) (mine expected : Option DataType) → or_dint (or_else (result_of f) (Some (or_dint (or_else mine expected)))) ≡ or_dint (or_else (or_else (result_of f) mine) expected)
call_type (functions.Conversion from to) mine expected = refl
call_type functions.Absolute mine expected = refl
call_type functions.Minimum mine expected = refl
call_type functions.Maximum mine expected = refl
call_type functions.Limit mine expected = refl
call_type functions.Select mine expected = refl
call_type (functions.Shift s) mine expected = refl

module _ (pous : Pous) (b : BodyScope) (last : ℕ → ℤ) (scope : Scope) where
  pub call_is : (expected : Option DataType) (at : ℕ) (f : Option StandardFunction) (s : Option Signature) (args : Arguments)
      → (f ≡ None → (x : Signature) → s ≡ Some x → SignatureFits pous b last scope x)
      → ((g : StandardFunction) (t : DataType) → (judged_arguments scope g t 0 args).whole ≡ true → AreOperandValues pous b last scope g t 0 args)
      → ((x : Signature) → (judged_given scope x 0 args).whole ≡ true → AreGivenValues pous b last scope x 0 args)
      → (judged_call scope expected at f s args (judged_alone scope args) (λ g t. judged_arguments scope g t 0 args) (λ x. judged_given scope x 0 args)).whole ≡ true
      → IsValueIf pous b last (or_dint (or_else (synthesized_of_call f s (λ g. synthesized_of_arguments scope g 0 args)) expected))
      (typed_result scope expected f s args (λ g t. typed_operands scope g t 0 args) (λ x. typed_given scope x 0 args))
  call_is expected at None None args fits operands given whole = absurd (false≢true whole)
  call_is expected at None (Some s) args fits operands given whole = answer_is pous b last scope s (fits refl s refl) at args (given s) whole
  call_is expected at (Some f) s args fits operands given whole =
      let t = common_type scope expected f args in
      let right = require (judged_arguments scope f t 0 args) (takes_operands f t && fit_from scope f t 0 args) OperandType at in
      let counted = counted_call (takes_count f (count_of args)) right (judged_alone scope args) at whole in
      let parts = whole_require (judged_arguments scope f t 0 args) (takes_operands f t && fit_from scope f t 0 args) OperandType at counted.1 in
      let tests = and_parts (takes_operands f t) (fit_from scope f t 0 args) parts.1 in
      subst (λ (x : DataType). IsValueIf pous b last x (typed_result scope expected (Some f) s args (λ g u. typed_operands scope g u 0 args) (λ y. typed_given scope y 0 args)))
      (call_type f (synthesized_of_arguments scope f 0 args) expected) (λ known. standard_is pous b last scope f t args (operands f t parts.0) counted.0 tests.0 tests.1)
