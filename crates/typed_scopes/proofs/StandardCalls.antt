-- Calls of standard functions.
use Rattle.std.proofs.Common.{◌≡◌, ◌+◌, ◌==◌, ℕ, ℤ, true, Some, refl, arith}
use Rattle.std.proofs.lemmas.Bool.{and_parts, and_from, or_left, or_right, false≢true}
use Rattle.std.proofs.lemmas.Bool.Decides.{nat_tests}
use Rattle.plc_types.specs.declared.elementary.Elementary.{Elementary}
use Rattle.plc_types.specs.declared.elementary.Elementary.TheVariants as types
use Rattle.plc_types.specs.declared.data_type.DataType.{DataType}
use Rattle.plc_types.specs.declared.data_type.DataType.TheVariants as kinds
use Rattle.plc_types.specs.DataTypes.{carrier}
use Rattle.plc_types.specs.Types.{range_of}
use Rattle.plc_types.specs.declared.function.Function.{Function}
use Rattle.plc_types.specs.declared.function.Function.TheVariants as typed_functions
use Rattle.plc_types.specs.declared.function.Shift.{Shift}
use Rattle.plc_types.specs.declared.function.StandardFunction.{StandardFunction}
use Rattle.plc_types.specs.declared.function.StandardFunction.TheVariants as functions
use Rattle.plc_types.proofs.InRange.{covers_self}
use Rattle.source_tree.specs.Syntax.{Tree, Arguments, no_arguments, argument}
use Rattle.program_tree.specs.Tree.{call_standard, Expressions}
use Rattle.program_tree.specs.OperandTypes.{is_function_for, first_operand_kind}
use Rattle.typing.specs.Typing.{Scope, type_of, or_else, or_dint, Parameter, fixed, common, amount, parameter_of, result_of, takes_operands, takes_count, count_of}
use Rattle.typing.specs.Judged.{expected_at, fits_at, fit_from}
use Rattle.typing.specs.Typed.{typed, with_operand, typed_operands, function_of}
use Rattle.typed_programs.specs.Scopes.{Pous, BodyScope}
use Rattle.typed_programs.specs.Expressions.{AreOf}
use Rattle.typed_scopes.proofs.SameTypes.{IsElementary, of_integers, of_ordered, of_bits, bits_unsigned}
use Rattle.typed_scopes.proofs.TypedValues.{IsValueOf, IsValueIf, carrier-covers, fitted, elementary_value}

more_than_one : (n : ℕ) → n + 1 + 1 == 1 ≡ true → ⊥
more_than_one n h = grind (arith, nat_tests)

more_than_two : (n : ℕ) → n + 1 + 1 + 1 == 2 ≡ true → ⊥
more_than_two n h = grind (arith, nat_tests)

more_than_three : (n : ℕ) → n + 1 + 1 + 1 + 1 == 3 ≡ true → ⊥
more_than_three n h = grind (arith, nat_tests)

abbrev IsCommon : Parameter → Type 0
IsCommon (fixed k) = ⊥
IsCommon common = Unit {0}
IsCommon amount = ⊥

module _ (pous : Pous) (b : BodyScope) (last : ℕ → ℤ) (scope : Scope) where
  -- arguments from a place on, where the operands are of a type
  abbrev pub AreOperandValues : StandardFunction → DataType → ℕ → Arguments → Type 0
  AreOperandValues f t place no_arguments = Unit {0}
  AreOperandValues f t place (argument n e args) =
      IsValueIf pous b last (type_of scope (expected_at (parameter_of f place) t) e) (typed scope (expected_at (parameter_of f place) t) e) × AreOperandValues f t (place + 1) args

  common_operand : (p : Parameter) (t : DataType) (e : Tree) (es : Expressions) → IsCommon p
      → IsValueIf pous b last (type_of scope (expected_at p t) e) (typed scope (expected_at p t) e) → fits_at scope p t e ≡ true
      → AreOf pous b (carrier t) (carrier t) es → AreOf pous b (carrier t) (carrier t) (with_operand p (typed scope (expected_at p t) e) es)
  common_operand (fixed k) t e es h value fits rest = absurd h
  common_operand common t e es h value fits rest = ((fitted pous b last (type_of scope (Some t) e) t (typed scope (Some t) e) fits value).typed, rest)
  common_operand amount t e es h value fits rest = absurd h

  -- all operands are of the one type
  all_common : (f : StandardFunction) (t : DataType) (place : ℕ) (args : Arguments) → ((k : ℕ) → IsCommon (parameter_of f k)) → AreOperandValues f t place args → fit_from scope f t place args ≡ true
      → AreOf pous b (carrier t) (carrier t) (typed_operands scope f t place args)
  all_common f t place no_arguments all values fits = tt
  all_common f t place (argument n e args) all values fits =
      let both = and_parts (fits_at scope (parameter_of f place) t e) (fit_from scope f t (place + 1) args) fits in
      common_operand (parameter_of f place) t e (typed_operands scope f t (place + 1) args) (all place) values.0 both.0 (all_common f t (place + 1) args all values.1 both.1)

  -- a function of operands of its own elementary type
  own_call : (f : Function) (t : DataType) (es : Expressions) → IsElementary t → is_function_for f (carrier t) ≡ true → AreOf pous b (first_operand_kind f (carrier t)) (carrier t) es
      → IsValueOf pous b last t (call_standard f (carrier t) es)
  own_call f t es elementary for operands =
      elementary_value pous b last t (call_standard f (carrier t) es) elementary (refl, for, operands) (or_left _ _ (covers_self (range_of (carrier t))))

  abbrev IsCallValue : StandardFunction → DataType → Arguments → Type 0
  IsCallValue f t args =
      IsValueOf pous b last (or_dint (or_else (result_of f) (Some t))) (call_standard (function_of f args) (carrier (or_dint (or_else (result_of f) (Some t)))) (typed_operands scope f t 0 args))

  conversion : (from to : Elementary) (t : DataType) (args : Arguments) → AreOperandValues (functions.Conversion from to) t 0 args → takes_count (functions.Conversion from to) (count_of args) ≡ true
      → fit_from scope (functions.Conversion from to) t 0 args ≡ true → IsCallValue (functions.Conversion from to) t args
  conversion from to t no_arguments values counted fits = absurd (false≢true counted)
  conversion from to t (argument n e no_arguments) values counted fits =
      let both = and_parts _ _ fits in
      let v = fitted pous b last (type_of scope (Some (kinds.Elementary from)) e) (kinds.Elementary from) (typed scope (Some (kinds.Elementary from)) e) both.0 values.0 in
      own_call (typed_functions.Convert from) (kinds.Elementary to) _ tt refl (v.typed, tt)
  conversion from to t (argument n e (argument m d args)) values counted fits = absurd (more_than_one (count_of args) counted)

  shift : (s : Shift) (t : DataType) (args : Arguments) → AreOperandValues (functions.Shift s) t 0 args → takes_count (functions.Shift s) (count_of args) ≡ true
      → takes_operands (functions.Shift s) t ≡ true → fit_from scope (functions.Shift s) t 0 args ≡ true → IsCallValue (functions.Shift s) t args
  shift s t no_arguments values counted takes fits = absurd (false≢true counted)
  shift s t (argument n e no_arguments) values counted takes fits = absurd (false≢true counted)
  shift s t (argument n e (argument m d no_arguments)) values counted takes fits =
      let bits = (and_parts _ _ takes).0 in
      let v = fitted pous b last (type_of scope (Some t) e) t (typed scope (Some t) e) (and_parts _ _ fits).0 values.0 in
      own_call (function_of (functions.Shift s) (argument n e (argument m d no_arguments))) t _ (of_bits t bits) (bits_unsigned t bits) (v.typed, tt)
  shift s t (argument n e (argument m d (argument k c args))) values counted takes fits = absurd (more_than_two (count_of args) counted)

  -- SEL answers one of its last two operands
  select : (t : DataType) (args : Arguments) → AreOperandValues functions.Select t 0 args → takes_count functions.Select (count_of args) ≡ true → fit_from scope functions.Select t 0 args ≡ true
      → IsCallValue functions.Select t args
  select t no_arguments values counted fits = absurd (false≢true counted)
  select t (argument n e no_arguments) values counted fits = absurd (false≢true counted)
  select t (argument n e (argument m d no_arguments)) values counted fits = absurd (false≢true counted)
  select t (argument n e (argument m d (argument k c no_arguments))) values counted fits =
      let first = and_parts _ _ fits in
      let second = and_parts _ _ first.1 in
      let third = and_parts _ _ second.1 in
      let g = fitted pous b last (type_of scope (Some (kinds.Elementary types.Bool)) e) (kinds.Elementary types.Bool) (typed scope (Some (kinds.Elementary types.Bool)) e) first.0 values.0 in
      let v = fitted pous b last (type_of scope (Some t) d) t (typed scope (Some t) d) second.0 values.1.0 in
      let w = fitted pous b last (type_of scope (Some t) c) t (typed scope (Some t) c) third.0 values.1.1.0 in
      record {
        known = v.known;
        typed = (refl, refl, (g.typed, (v.typed, (w.typed, tt))));
        stays = or_right _ _ (and_from _ _ (carrier-covers last t v.known) (and_from _ _ v.stays w.stays));
      }
  select t (argument n e (argument m d (argument k c (argument l a args)))) values counted fits = absurd (more_than_three (count_of args) counted)

  pub standard_is : (f : StandardFunction) (t : DataType) (args : Arguments) → AreOperandValues f t 0 args → takes_count f (count_of args) ≡ true → takes_operands f t ≡ true → fit_from scope f t 0 args ≡ true
      → IsCallValue f t args
  standard_is (functions.Conversion from to) t args values counted takes fits = conversion from to t args values counted fits
  standard_is functions.Absolute t args values counted takes fits =
      own_call typed_functions.Absolute t (typed_operands scope functions.Absolute t 0 args) (of_integers t takes) refl (all_common functions.Absolute t 0 args (λ k. tt) values fits)
  standard_is functions.Minimum t args values counted takes fits =
      own_call typed_functions.Minimum t (typed_operands scope functions.Minimum t 0 args) (of_ordered t (and_parts _ _ takes).0) refl (all_common functions.Minimum t 0 args (λ k. tt) values fits)
  standard_is functions.Maximum t args values counted takes fits =
      own_call typed_functions.Maximum t (typed_operands scope functions.Maximum t 0 args) (of_ordered t (and_parts _ _ takes).0) refl (all_common functions.Maximum t 0 args (λ k. tt) values fits)
  standard_is functions.Limit t args values counted takes fits =
      own_call typed_functions.Limit t (typed_operands scope functions.Limit t 0 args) (of_ordered t (and_parts _ _ takes).0) refl (all_common functions.Limit t 0 args (λ k. tt) values fits)
  standard_is functions.Select t args values counted takes fits = select t args values counted fits
  standard_is (functions.Shift s) t args values counted takes fits = shift s t args values counted takes fits
