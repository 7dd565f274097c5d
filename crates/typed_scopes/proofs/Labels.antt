-- The labels of a CASE lie in the range of its selector's type.
use Rattle.std.proofs.Common.{◌≡◌, ◌∷◌, [], List, map, ℕ, ℤ, true, ◌&&◌, not, Option, Some, None}
use Rattle.std.specs.Prelude.{All, int_le}
use Rattle.std.proofs.lemmas.Bool.{and_parts}
use Rattle.std.proofs.lemmas.List.Elements.{All-nil, All-cons}
use Rattle.plc_types.specs.declared.data_type.DataType.{DataType}
use Rattle.plc_types.specs.declared.range.Range.{Range}
use Rattle.plc_types.specs.DataTypes.{carrier}
use Rattle.plc_types.specs.Types.{range_of, in_range}
use Rattle.plc_types.specs.declared.operator.UnaryOperator.TheVariants as signs
use Rattle.source_tree.specs.Syntax.{Tree, literal, path, enumerator, paren, unary, chain, call, LabelData}
use Rattle.source_tree.specs.Levels.{IsLevelled, IsConstant, IsInitialFormed, IsLabelFormed, AreLabelsFormed}
use Rattle.rules.specs.declared.rule.Rule.TheVariants.{OperandType, OutsideType, Overlap}
use Rattle.rules.specs.Judgements.{and, require}
use Rattle.typing.specs.Typing.{Scope, type_of, place_of}
use Rattle.typing.specs.Judged.{judged}
use Rattle.typing.specs.Typed.{typed, constant_of}
use Rattle.typing.specs.Labels.{high_value, label_range, labelled_by, typed_label, judged_high, is_of_type, high_is_of_type, overlaps, judged_label, seen_with, judged_labels}
use Rattle.typed_programs.specs.Scopes.{Pous, BodyScope}
use Rattle.typed_programs.specs.Statements.{IsLabelOf}
use Rattle.typed_scopes.specs.Uses.{Usable, IsWithin, IsOptionWithin, AreLabelsWithin}
use Rattle.typed_scopes.specs.Fitting.{ScopeFits}
use Rattle.typed_scopes.proofs.Wholes.{whole_require, whole_and}
use Rattle.typed_scopes.proofs.TypedValues.{fitted, number_in}
use Rattle.typed_scopes.proofs.Expressions.{value_is}

-- what may be a label is levelled
constant_levelled : (e : Tree) → IsConstant e → IsLevelled e
constant_levelled (literal l) h = tt
constant_levelled (path p) h = tt
constant_levelled (enumerator t v) h = tt
constant_levelled (paren at e) h = absurd h
constant_levelled (unary signs.Minus at (literal l)) h = (tt, tt)
constant_levelled (unary o at e) h = absurd h
constant_levelled (chain e ls) h = absurd h
constant_levelled (call n at args) h = absurd h

module _ (pous : Pous) (b : BodyScope) (last : ℕ → ℤ) (scope : Scope) (uses : Usable) (fits : ScopeFits pous b last scope uses) where
  constant_in : (t : DataType) (e : Tree) → IsWithin uses e → IsConstant e → (judged scope (Some t) e).whole ≡ true → is_of_type scope t e ≡ true → in_range (constant_of scope t e) (range_of (carrier t)) ≡ true
  constant_in t e within formed whole same =
      number_in pous b last (carrier t) (typed scope (Some t) e) (fitted pous b last (type_of scope (Some t) e) t (typed scope (Some t) e) same (value_is pous b last scope uses fits (Some t) e within (constant_levelled e formed) whole)).typed

  label_by : (t : DataType) (low : Tree) (high : Option Tree) → IsWithin uses low → IsOptionWithin uses high → IsConstant low → IsInitialFormed high → (and (judged scope (Some t) low) (judged_high scope t high)).whole ≡ true
      → is_of_type scope t low && high_is_of_type scope t high ≡ true → IsLabelOf (carrier t) (labelled_by (record { low = constant_of scope t low; high = high_value scope t low high }) high)
  label_by t low None within high_within formed none whole same =
      constant_in t low within formed (whole_and (judged scope (Some t) low) (judged_high scope t None) whole).0 (and_parts (is_of_type scope t low) (high_is_of_type scope t None) same).0
  label_by t low (Some e) within high_within formed high whole same =
      let wholes = whole_and (judged scope (Some t) low) (judged_high scope t (Some e)) whole in
      let tests = and_parts (is_of_type scope t low) (high_is_of_type scope t (Some e)) same in
      (constant_in t low within formed wholes.0 tests.0, constant_in t e high_within high wholes.1 tests.1)

  label_is : (t : DataType) (seen : List Range) (l : LabelData) → IsWithin uses l.low → IsOptionWithin uses l.high → IsLabelFormed l → (judged_label scope t seen l).whole ≡ true → IsLabelOf (carrier t) (typed_label scope t l)
  label_is t seen l within high_within formed whole =
      let at = place_of l.low in
      let parts = and (judged scope (Some t) l.low) (judged_high scope t l.high) in
      let same = is_of_type scope t l.low && high_is_of_type scope t l.high in
      let typed_parts = require parts same OperandType at in
      let order = int_le (label_range scope t l).low (label_range scope t l).high in
      let last_test = whole_require (require typed_parts order OutsideType at) (not (overlaps seen (label_range scope t l))) Overlap at whole in
      let order_test = whole_require typed_parts order OutsideType at last_test.0 in
      let type_test = whole_require parts same OperandType at order_test.0 in
      label_by t l.low l.high within high_within formed.0 formed.1 type_test.0 type_test.1

  pub labels_are : (t : DataType) (seen : List Range) (ls : List LabelData) → AreLabelsWithin uses ls → AreLabelsFormed ls → (judged_labels scope t seen ls).whole ≡ true → All (IsLabelOf (carrier t)) (map (typed_label scope t) ls)
  labels_are t seen [] within formed whole = All-nil (IsLabelOf (carrier t))
  labels_are t seen (l ∷ ls) within formed whole =
      let both = whole_and (judged_label scope t seen l) (judged_labels scope t (seen_with scope t seen l) ls) whole in
      All-cons (IsLabelOf (carrier t)) (typed_label scope t l) (map (typed_label scope t) ls) (label_is t seen l within.0 within.1 formed.0 both.0) (labels_are t (seen_with scope t seen l) ls within.2 formed.1 both.1)
