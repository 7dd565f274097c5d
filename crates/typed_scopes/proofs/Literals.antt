-- Literals, and those behind a minus sign, are values of their types.
use Rattle.std.proofs.Common.{◌≡◌, ℕ, ℤ, pos, Bool, true, false, if◌then◌else◌, Option, refl, sym, subst}
use Rattle.std.proofs.lemmas.Bool.{false≢true}
use Rattle.plc_types.specs.declared.elementary.Elementary.{Elementary}
use Rattle.plc_types.specs.declared.elementary.Elementary.TheVariants as types
use Rattle.plc_types.specs.declared.data_type.DataType.{DataType}
use Rattle.plc_types.specs.declared.data_type.DataType.TheVariants as kinds
use Rattle.plc_types.specs.DataTypes.{carrier}
use Rattle.plc_types.specs.Types.{range_of, in_range, wrap_to}
use Rattle.plc_types.proofs.TypeRanges.{wrapped_same}
use Rattle.plc_types.proofs.SameTypes.{same_type}
use Rattle.source_tree.specs.declared.syntax.Literal.{Literal}
use Rattle.source_tree.specs.declared.syntax.Literal.TheVariants as literals
use Rattle.source_tree.specs.Syntax.{literal}
use Rattle.program_tree.specs.Tree.{number}
use Rattle.rules.specs.declared.rule.Rule.TheVariants.{OutsideType}
use Rattle.rules.specs.Judgements.{ok, suppressed, breaks}
use Rattle.typing.specs.Typing.{Scope, bool_type, type_of, or_dint, negated, truth_value, is_minus, is_unknown, is_number_of, is_bool}
use Rattle.typing.specs.Judged.{judged_literal}
use Rattle.typing.specs.Typed.{number_of}
use Rattle.typed_programs.specs.Scopes.{Pous, BodyScope}
use Rattle.typed_scopes.proofs.Wholes.{whole_test}
use Rattle.typed_scopes.proofs.TypedValues.{IsValueOf, number_value}

module _ (pous : Pous) (b : BodyScope) (last : ℕ → ℤ) where
  -- a number of its type stays as it is
  kept : (k : Elementary) (v : ℤ) → in_range v (range_of k) ≡ true → IsValueOf pous b last (kinds.Elementary k) (number (wrap_to k v))
  kept k v h = subst (λ (w : ℤ). IsValueOf pous b last (kinds.Elementary k) (number w)) (sym (wrapped_same k v h)) (number_value pous b last (kinds.Elementary k) v tt h)

  pub in_number : (t : DataType) (v : ℤ) (at : ℕ) → (if is_unknown t then suppressed else (if is_number_of t v then ok else breaks OutsideType at)).whole ≡ true
      → IsValueOf pous b last t (number (wrap_to (carrier t) v))
  in_number (kinds.Elementary k) v at whole = kept k v (whole_test (in_range v (range_of k)) OutsideType at whole)
  in_number (kinds.Enumeration n) v at whole = absurd (false≢true whole)
  in_number kinds.Unknown v at whole = absurd (false≢true whole)

  truth : (value : Bool) → IsValueOf pous b last bool_type (number (wrap_to types.Bool (truth_value value)))
  truth true = kept types.Bool (pos 1) refl
  truth false = kept types.Bool (pos 0) refl

  pub literal_is : (scope : Scope) (expected : Option DataType) (at : ℕ) (l : Literal) → (judged_literal (type_of scope expected (literal l)) false at l).whole ≡ true
      → IsValueOf pous b last (type_of scope expected (literal l)) (number_of (type_of scope expected (literal l)) false l)
  literal_is scope expected at (literals.Number value here) whole = in_number (or_dint expected) (pos value) at whole
  literal_is scope expected at (literals.Truth value here) whole = truth value
  literal_is scope expected at (literals.TypedNumber kind here minus value value_at) whole = in_number (kinds.Elementary kind) (negated (is_minus minus) (pos value)) at whole
  literal_is scope expected at (literals.TypedTruth kind here value value_at) whole =
      subst (λ (t : DataType). IsValueOf pous b last t (number (wrap_to (carrier t) (truth_value value)))) (sym (same_type (kinds.Elementary kind) bool_type (whole_test (is_bool (kinds.Elementary kind)) OutsideType at whole))) (truth value)
