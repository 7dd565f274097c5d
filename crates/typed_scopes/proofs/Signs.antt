-- Unary operators.
use Rattle.std.proofs.Common.{◌≡◌, ℕ, ℤ, pos, true, Option, Some, None, refl, subst}
use Rattle.plc_types.specs.declared.data_type.DataType.{DataType}
use Rattle.plc_types.specs.declared.data_type.DataType.TheVariants as kinds
use Rattle.plc_types.specs.DataTypes.{carrier}
use Rattle.plc_types.specs.Types.{range_of}
use Rattle.plc_types.specs.declared.operator.UnaryOperator.{UnaryOperator}
use Rattle.plc_types.specs.declared.operator.UnaryOperator.TheVariants as signs
use Rattle.plc_types.proofs.InRange.{covers_self}
use Rattle.source_tree.specs.declared.syntax.Literal.TheVariants as literals
use Rattle.source_tree.specs.Syntax.{Tree, literal, unary}
use Rattle.program_tree.specs.Tree.{unary as typed_unary}
use Rattle.rules.specs.declared.rule.Rule.TheVariants.{OperandType}
use Rattle.rules.specs.Judgements.{require}
use Rattle.typing.specs.Typing.{Scope, synthesized, type_of, or_else, or_dint, negated, is_minus}
use Rattle.typing.specs.Judged.{takes_sign, judged}
use Rattle.typing.specs.Typed.{typed}
use Rattle.typed_programs.specs.Scopes.{Pous, BodyScope}
use Rattle.typed_scopes.proofs.Wholes.{whole_require}
use Rattle.typed_scopes.proofs.SameTypes.{IsElementary, elementary_known, of_integers, of_bits}
use Rattle.typed_scopes.proofs.TypedValues.{IsValueOf, IsValueIf, elementary_value}
use Rattle.typed_scopes.proofs.Literals.{in_number}

signed_type : (o : UnaryOperator) (t : DataType) → takes_sign o t ≡ true → IsElementary t
signed_type signs.Minus t h = of_integers t h
signed_type signs.Not t h = of_bits t h

-- an expression's type is its type again where that is expected
type_again : (mine expected : Option DataType) → or_dint (or_else mine (Some (or_dint (or_else mine expected)))) ≡ or_dint (or_else mine expected)
type_again (Some t) expected = refl
type_again None expected = refl

module _ (pous : Pous) (b : BodyScope) (last : ℕ → ℤ) (scope : Scope) where
  abbrev pub IsJudgedValue : Option DataType → Tree → Type 0
  IsJudgedValue expected e = (judged scope expected e).whole ≡ true → IsValueIf pous b last (type_of scope expected e) (typed scope expected e)

  -- before what is no number
  plain : (expected : Option DataType) (o : UnaryOperator) (at : ℕ) (e : Tree) → IsJudgedValue (Some (type_of scope expected e)) e
      → (require (judged scope (Some (type_of scope expected e)) e) (takes_sign o (type_of scope expected e)) OperandType at).whole ≡ true
      → IsValueOf pous b last (type_of scope expected e) (typed_unary o (carrier (type_of scope expected e)) (typed scope (Some (type_of scope expected e)) e))
  plain expected o at e given whole =
      let t = type_of scope expected e in
      let w = whole_require (judged scope (Some t) e) (takes_sign o t) OperandType at whole in
      let v = subst (λ (x : DataType). IsValueIf pous b last x (typed scope (Some t) e)) (type_again (synthesized scope e) expected) (given w.0) (elementary_known t (signed_type o t w.1)) in
      elementary_value pous b last t (typed_unary o (carrier t) (typed scope (Some t) e)) (signed_type o t w.1) (refl, v.typed) (covers_self (range_of (carrier t)))

  pub unary_is : (expected : Option DataType) (o : UnaryOperator) (at : ℕ) (e : Tree) → IsJudgedValue (Some (type_of scope expected e)) e → IsJudgedValue expected (unary o at e)
  unary_is expected signs.Minus at (literal (literals.Number value here)) given whole known = in_number pous b last (or_dint expected) (negated true (pos value)) at whole
  unary_is expected signs.Minus at (literal (literals.TypedNumber kind here minus value value_at)) given whole known =
      in_number pous b last (kinds.Elementary kind) (negated true (negated (is_minus minus) (pos value))) at whole
  unary_is expected o at e given whole known = plain expected o at e given whole
