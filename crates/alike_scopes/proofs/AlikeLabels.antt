-- The labels of a CASE and the bounds of a FOR are judged alike over scopes that differ in the places of cells alone.
use Rattle.std.proofs.Common.{◌≡◌, List, [], ◌∷◌, Bool, true, false, not, ◌&&◌, Option, Some, None, is_some, if◌then◌else◌, refl, ap, ◌∙◌}
use Rattle.std.specs.Prelude.{int_le}
use Rattle.plc_types.specs.declared.data_type.DataType.{DataType}
use Rattle.plc_types.specs.declared.range.Range.{Range}
use Rattle.rules.specs.declared.rule.Rule.TheVariants.{OperandType, OutsideType, Overlap, NotConstant}
use Rattle.rules.specs.Judgements.{Judgement, and, require}
use Rattle.source_tree.specs.Syntax.{Tree, LabelData, IterationData}
use Rattle.naming.specs.Broken.{alone}
use Rattle.typing.specs.Typing.{Scope, by_path, kind_at, or_dint, place_of}
use Rattle.typing.specs.Constants.{broken_by_turns, turn_count}
use Rattle.typing.specs.Labels.{high_value, label_range, judged_high, high_is_of_type, overlaps, judged_label, judged_labels, seen_with, seen_behind}
use Rattle.typing.specs.JudgedStatements.{judged_bound, judged_step, is_typed, step_is_typed, value_or_zero, bound_value, step_value, range_at, turns_rule, may_select, judged_selector, judged_labels_if}
use Rattle.alike_scopes.specs.AlikeScopes.{AreAlike}
use Rattle.alike_scopes.proofs.AlikeNames.{kind_alike, range_alike}
use Rattle.alike_scopes.proofs.AlikeTrees.{type_alike, same_alike, judged_alike}
use Rattle.alike_scopes.proofs.AlikeConstants.{value_of_alike, constant_alike}

module _ (s t : Scope) (alike : AreAlike s t) where
  -- ---- labels

  high_alike : (k : DataType) (low : Tree) (high : Option Tree) → high_value s k low high ≡ high_value t k low high
  high_alike k low None = constant_alike s t alike k low
  high_alike k low (Some e) = constant_alike s t alike k e

  range_of_alike : (k : DataType) (l : LabelData) → label_range s k l ≡ label_range t k l
  range_of_alike k l = λ i. record { low = constant_alike s t alike k l.low i; high = high_alike k l.low l.high i }

  judged_high_alike : (k : DataType) (e : Option Tree) → judged_high s k e ≡ judged_high t k e
  judged_high_alike k None = refl
  judged_high_alike k (Some e) = judged_alike s t alike (Some k) e

  high_typed_alike : (k : DataType) (e : Option Tree) → high_is_of_type s k e ≡ high_is_of_type t k e
  high_typed_alike k None = refl
  high_typed_alike k (Some e) = same_alike s t alike k e

  label_alike : (k : DataType) (seen : List Range) (l : LabelData) → judged_label s k seen l ≡ judged_label t k seen l
  label_alike k seen l =
      let range = range_of_alike k l in
      λ i. require
      (require
      (require (and (judged_alike s t alike (Some k) l.low i) (judged_high_alike k l.high i)) (same_alike s t alike k l.low i && high_typed_alike k l.high i) OperandType (place_of l.low))
      (int_le (range i).low (range i).high) OutsideType (place_of l.low))
      (not (overlaps seen (range i))) Overlap (place_of l.low)

  seen_with_alike : (k : DataType) (seen : List Range) (l : LabelData) → seen_with s k seen l ≡ seen_with t k seen l
  seen_with_alike k seen l = λ i. if (label_alike k seen l i).whole then range_of_alike k l i ∷ seen else seen

  pub seen_alike : (k : DataType) (seen : List Range) (ls : List LabelData) → seen_behind s k seen ls ≡ seen_behind t k seen ls
  seen_alike k seen [] = refl
  seen_alike k seen (l ∷ ls) = seen_alike k (seen_with s k seen l) ls ∙ ap (λ (x : List Range). seen_behind t k x ls) (seen_with_alike k seen l)

  labels_alike : (k : DataType) (seen : List Range) (ls : List LabelData) → judged_labels s k seen ls ≡ judged_labels t k seen ls
  labels_alike k seen [] = refl
  labels_alike k seen (l ∷ ls) =
      (λ i. and (label_alike k seen l i) (labels_alike k (seen_with s k seen l) ls i)) ∙ ap (λ (x : List Range). and (judged_label t k seen l) (judged_labels t k x ls)) (seen_with_alike k seen l)

  pub labels_if_alike : (w : Bool) (k : DataType) (seen : List Range) (ls : List LabelData) → judged_labels_if s w k seen ls ≡ judged_labels_if t w k seen ls
  labels_if_alike true k seen ls = labels_alike k seen ls
  labels_if_alike false k seen ls = refl

  pub selector_alike : (e : Tree) → judged_selector s e ≡ judged_selector t e
  selector_alike e = λ i. require (judged_alike s t alike None e i) (may_select (type_alike s t alike None e i)) OperandType (place_of e)

  -- ---- bounds

  bound_alike : (k : DataType) (e : Tree) → judged_bound s k e ≡ judged_bound t k e
  bound_alike k e = λ i. require (judged_alike s t alike (Some k) e i) (is_some (value_of_alike s t alike (Some k) e i)) NotConstant (place_of e)

  step_alike : (k : DataType) (e : Option Tree) → judged_step s k e ≡ judged_step t k e
  step_alike k None = refl
  step_alike k (Some e) = bound_alike k e

  step_typed_alike : (k : DataType) (e : Option Tree) → step_is_typed s k e ≡ step_is_typed t k e
  step_typed_alike k None = refl
  step_typed_alike k (Some e) = same_alike s t alike k e

  bounds_of : Scope → DataType → IterationData → Judgement
  bounds_of x k i = and (judged_bound x k i.first) (and (judged_bound x k i.last) (judged_step x k i.step))

  typed_of : Scope → DataType → IterationData → Bool
  typed_of x k i = is_typed x k i.first && is_typed x k i.last && step_is_typed x k i.step

  value_alike : (k : DataType) (e : Tree) → bound_value s k e ≡ bound_value t k e
  value_alike k e = ap value_or_zero (value_of_alike s t alike (Some k) e)

  step_value_alike : (k : DataType) (e : Option Tree) → step_value s k e ≡ step_value t k e
  step_value_alike k None = refl
  step_value_alike k (Some e) = value_alike k e

  module _ (it : IterationData) where
    control_kind : or_dint (kind_at (s.means (by_path (alone it.control)))) ≡ or_dint (kind_at (t.means (by_path (alone it.control))))
    control_kind = ap or_dint (kind_alike (s.means (by_path (alone it.control))) (t.means (by_path (alone it.control))) (alike.means (by_path (alone it.control))))

    pub bounds_alike : (let k = or_dint (kind_at (s.means (by_path (alone it.control)))) in and (judged_bound s k it.first) (and (judged_bound s k it.last) (judged_step s k it.step)))
        ≡ (let k = or_dint (kind_at (t.means (by_path (alone it.control)))) in and (judged_bound t k it.first) (and (judged_bound t k it.last) (judged_step t k it.step)))
    bounds_alike =
        let k = or_dint (kind_at (s.means (by_path (alone it.control)))) in
        (λ i. and (bound_alike k it.first i) (and (bound_alike k it.last i) (step_alike k it.step i)))
        ∙ ap (λ (x : DataType). and (judged_bound t x it.first) (and (judged_bound t x it.last) (judged_step t x it.step))) control_kind

    pub typed_bounds_alike : (let k = or_dint (kind_at (s.means (by_path (alone it.control)))) in is_typed s k it.first && is_typed s k it.last && step_is_typed s k it.step)
        ≡ (let k = or_dint (kind_at (t.means (by_path (alone it.control)))) in is_typed t k it.first && is_typed t k it.last && step_is_typed t k it.step)
    typed_bounds_alike =
        let k = or_dint (kind_at (s.means (by_path (alone it.control)))) in
        (λ i. same_alike s t alike k it.first i && same_alike s t alike k it.last i && step_typed_alike k it.step i)
        ∙ ap (λ (x : DataType). is_typed t x it.first && is_typed t x it.last && step_is_typed t x it.step) control_kind

    pub turns_alike : turns_rule s it ≡ turns_rule t it
    turns_alike =
        let k = or_dint (kind_at (s.means (by_path (alone it.control)))) in
        let range = range_alike (s.means (by_path (alone it.control))) (t.means (by_path (alone it.control))) (alike.means (by_path (alone it.control))) in
        (λ i. broken_by_turns (range i) (value_alike k it.first i) (value_alike k it.last i) (step_value_alike k it.step i))
        ∙ ap (λ (x : DataType). broken_by_turns (range_at (t.means (by_path (alone it.control)))) (bound_value t x it.first) (bound_value t x it.last) (step_value t x it.step)) control_kind

    pub turn_count_alike : (let k = or_dint (kind_at (s.means (by_path (alone it.control)))) in turn_count (bound_value s k it.first) (bound_value s k it.last) (step_value s k it.step))
        ≡ (let k = or_dint (kind_at (t.means (by_path (alone it.control)))) in turn_count (bound_value t k it.first) (bound_value t k it.last) (step_value t k it.step))
    turn_count_alike =
        let k = or_dint (kind_at (s.means (by_path (alone it.control)))) in
        (λ i. turn_count (value_alike k it.first i) (value_alike k it.last i) (step_value_alike k it.step i)) ∙ ap (λ (x : DataType). turn_count (bound_value t x it.first) (bound_value t x it.last) (step_value t x it.step)) control_kind
