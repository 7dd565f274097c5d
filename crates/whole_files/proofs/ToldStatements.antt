-- Bodies over whole names that break nothing are whole, item by item.
use Rattle.std.proofs.Common.{◌≡◌, ℕ, List, [], ◌∷◌, Bool, true, false, not, ◌&&◌, Option, Some, None}
use Rattle.std.specs.List.{list_all}
use Rattle.plc_types.specs.declared.data_type.DataType.{DataType}
use Rattle.plc_types.specs.declared.range.Range.{Range}
use Rattle.plc_types.specs.DataTypes.{is_same_type}
use Rattle.rules.specs.declared.rule.Rule.TheVariants.{OperandType, ValueType, ArgumentCount, NotAssignable, NotConstant, OutsideType, Overlap, ExitOutsideFor}
use Rattle.rules.specs.Judgements.{and, require}
use Rattle.source_tree.specs.Syntax.{Named, PathData, Tree, ConnectionData, input, output, LabelData, IterationData, BodyData}
use Rattle.source_tree.specs.StatementItems.{StatementItem, assignment, invocation, condition, selector, labels, iteration}
use Rattle.naming.specs.Broken.{alone}
use Rattle.typing.specs.declared.scope.Meaning.{Meaning}
use Rattle.typing.specs.Typing.{Scope, by_path, kind_at, or_dint, type_of, place_of, is_unknown}
use Rattle.typing.specs.Judged.{judged, judged_meaning, judged_condition}
use Rattle.typing.specs.Constants.{constant_value}
use Rattle.std.specs.Prelude.{is_some, int_le}
use Rattle.typing.specs.Labels.{judged_high, is_of_type, high_is_of_type, label_range, overlaps, judged_label, judged_labels, seen_with}
use Rattle.typing.specs.JudgedStatements.{is_assignable, judged_target, judged_assign, member, judged_input, judged_output, judged_connections, connects_twice, has_right_arrow, judged_invoke, may_control, judged_control, judged_bound, judged_step, is_typed, step_is_typed, judged_iteration, turns_rule, may_select, judged_selector, judged_labels_if}
use Rattle.typing.specs.JudgedItems.{controls_in, seen_in, judged_item}
use Rattle.typing.specs.Pous.{judged_body}
use Rattle.typing.proofs.JudgedItems.{given_body, has_exits}
use Rattle.alike_scopes.specs.typed_scopes.Uses.{Usable, IsWithin, IsOptionWithin, AreConnectionsWithin, AreLabelsWithin, IsIterationWithin, IsItemWithin}
use Rattle.alike_scopes.specs.bound_names.BoundNames.{IsBodyWithin}
use Rattle.alike_scopes.proofs.typed_scopes.EveryItem.{body_mapped}
use Rattle.alike_scopes.proofs.typed_scopes.Selectors.{WithSelector, body_with_selectors}
use Rattle.whole_files.specs.WholeScopes.{is_whole_meaning, IsWholeScope}
use Rattle.whole_files.proofs.Told.{IsTold, told_ok, told_breaks, told_and, told_require, told_broken_by, told_given}
use Rattle.whole_files.proofs.KnownTypes.{kind_known, dint_known, type_known}
use Rattle.whole_files.proofs.ToldTrees.{meaning_told, tree_told, condition_told}

target_told : (controls : List ℕ) (m : Option Meaning) (at : ℕ) → is_whole_meaning m ≡ true → IsTold (judged_target controls m at)
target_told controls m at whole = told_require (judged_meaning m) (is_assignable controls m) NotAssignable at (meaning_told m whole)

module _ (scope : Scope) (uses : Usable) (whole : IsWholeScope scope uses) where
  assign_told : (controls : List ℕ) (p : PathData) (e : Tree) → uses.names (by_path p) ≡ true → IsWithin uses e → IsTold (judged_assign scope controls p e)
  assign_told controls p e named within =
      let m = scope.means (by_path p) in
      let w = whole.names (by_path p) named in
      let target = judged_target controls m p.first.at in
      let value = judged scope (kind_at m) e in
      told_require (and target value) (is_same_type (type_of scope (kind_at m) e) (or_dint (kind_at m))) ValueType p.first.at
      (told_and target value (target_told controls m p.first.at w) (tree_told scope uses whole (kind_at m) (kind_known m w) e within))

  -- ---- calls of instances

  input_told : (m : Option Meaning) → is_whole_meaning m ≡ true → (x : Named) (e : Tree) → IsWithin uses e → IsTold (judged_input scope m x e)
  input_told m w x e within =
      let value = judged scope (kind_at m) e in
      told_require (and (judged_meaning m) value) (is_same_type (type_of scope (kind_at m) e) (or_dint (kind_at m))) ValueType x.at
      (told_and (judged_meaning m) value (meaning_told m w) (tree_told scope uses whole (kind_at m) (kind_known m w) e within))

  output_told : (controls : List ℕ) (m target : Option Meaning) (at : ℕ) → is_whole_meaning m ≡ true → is_whole_meaning target ≡ true → IsTold (judged_output controls m target at)
  output_told controls m target at w v =
      told_require (and (judged_meaning m) (judged_target controls target at)) (is_same_type (or_dint (kind_at target)) (or_dint (kind_at m))) ValueType at
      (told_and (judged_meaning m) (judged_target controls target at) (meaning_told m w) (target_told controls target at v))

  connections_told : (controls : List ℕ) (n : Named) (cs : List ConnectionData) → AreConnectionsWithin uses n cs → IsTold (judged_connections scope controls n cs)
  connections_told controls n [] within = told_ok
  connections_told controls n (input x e ∷ cs) within =
      let p = by_path (member n x) in
      told_and (judged_input scope (scope.means p) x e) (judged_connections scope controls n cs) (input_told (scope.means p) (whole.names p within.0) x e within.1) (connections_told controls n cs within.2)
  connections_told controls n (output y q ∷ cs) within =
      let p = by_path (member n y) in
      let target = scope.means (by_path q) in
      told_and (judged_output controls (scope.means p) target q.first.at) (judged_connections scope controls n cs)
      (output_told controls (scope.means p) target q.first.at (whole.names p within.0) (whole.names (by_path q) within.1)) (connections_told controls n cs within.2)

  invoke_told : (controls : List ℕ) (n : Named) (cs : List ConnectionData) → AreConnectionsWithin uses n cs → IsTold (judged_invoke scope controls n cs)
  invoke_told controls n cs within =
      told_require (judged_connections scope controls n cs) (not (connects_twice [] cs) && list_all (has_right_arrow scope n) cs) ArgumentCount n.at (connections_told controls n cs within)

  -- ---- FOR

  bound_told : (t : DataType) → is_unknown t ≡ false → (e : Tree) → IsWithin uses e → IsTold (judged_bound scope t e)
  bound_told t known e within = told_require (judged scope (Some t) e) (is_some (constant_value scope (Some t) e)) NotConstant (place_of e) (tree_told scope uses whole (Some t) known e within)

  step_told : (t : DataType) → is_unknown t ≡ false → (e : Option Tree) → IsOptionWithin uses e → IsTold (judged_step scope t e)
  step_told t known None within = told_ok
  step_told t known (Some e) within = bound_told t known e within

  iteration_told : (controls : List ℕ) (i : IterationData) → IsIterationWithin uses i → IsTold (judged_iteration scope controls i)
  iteration_told controls i within =
      let m = scope.means (by_path (alone i.control)) in
      let w = whole.names (by_path (alone i.control)) within.0 in
      let t = or_dint (kind_at m) in
      let k = dint_known (kind_at m) (kind_known m w) in
      let control = judged_control controls m i.control.at in
      let first = judged_bound scope t i.first in
      let last = judged_bound scope t i.last in
      let step = judged_step scope t i.step in
      told_require (and control (and first (and last step))) (is_typed scope t i.first && is_typed scope t i.last && step_is_typed scope t i.step) ValueType i.control.at
      (told_and control (and first (and last step)) (told_require (judged_meaning m) (may_control controls m) NotAssignable i.control.at (meaning_told m w))
      (told_and first (and last step) (bound_told t k i.first within.1) (told_and last step (bound_told t k i.last within.2) (step_told t k i.step within.3))))

  -- ---- CASE

  selector_told : (e : Tree) → IsWithin uses e → IsTold (judged_selector scope e)
  selector_told e within = told_require (judged scope None e) (may_select (type_of scope None e)) OperandType (place_of e) (tree_told scope uses whole None tt e within)

  high_told : (t : DataType) → is_unknown t ≡ false → (e : Option Tree) → IsOptionWithin uses e → IsTold (judged_high scope t e)
  high_told t known None within = told_ok
  high_told t known (Some e) within = tree_told scope uses whole (Some t) known e within

  label_told : (t : DataType) → is_unknown t ≡ false → (seen : List Range) (l : LabelData) → IsWithin uses l.low → IsOptionWithin uses l.high → IsTold (judged_label scope t seen l)
  label_told t known seen l low high =
      let values = and (judged scope (Some t) l.low) (judged_high scope t l.high) in
      let fits = is_of_type scope t l.low && high_is_of_type scope t l.high in
      let typed = require values fits OperandType (place_of l.low) in
      let ordered = int_le (label_range scope t l).low (label_range scope t l).high in
      let bounded = require typed ordered OutsideType (place_of l.low) in
      told_require bounded (not (overlaps seen (label_range scope t l))) Overlap (place_of l.low)
      (told_require typed ordered OutsideType (place_of l.low)
      (told_require values fits OperandType (place_of l.low) (told_and (judged scope (Some t) l.low) (judged_high scope t l.high) (tree_told scope uses whole (Some t) known l.low low) (high_told t known l.high high))))

  labels_told : (t : DataType) → is_unknown t ≡ false → (seen : List Range) (ls : List LabelData) → AreLabelsWithin uses ls → IsTold (judged_labels scope t seen ls)
  labels_told t known seen [] within = told_ok
  labels_told t known seen (l ∷ ls) within =
      told_and (judged_label scope t seen l) (judged_labels scope t (seen_with scope t seen l) ls) (label_told t known seen l within.0 within.1) (labels_told t known (seen_with scope t seen l) ls within.2)

  labels_if_told : (w : Bool) (t : DataType) → is_unknown t ≡ false → (seen : List Range) (ls : List LabelData) → AreLabelsWithin uses ls → IsTold (judged_labels_if scope w t seen ls)
  labels_if_told true t known seen ls within = labels_told t known seen ls within
  labels_if_told false t known seen ls within = told_ok

  item_told : (around : List IterationData) (i : StatementItem) → WithSelector (IsItemWithin uses) around i → IsTold (judged_item scope [] around i)
  item_told around (assignment p e) within = assign_told (controls_in scope [] around) p e within.0 within.1
  item_told around (invocation n at cs) within = invoke_told (controls_in scope [] around) n cs within
  item_told around (condition e) within = condition_told scope uses whole OperandType e within
  item_told around (selector e) within = selector_told e within
  item_told around (labels e before ls) within =
      let t = type_of scope None e in
      labels_if_told (judged_selector scope e).whole t (type_known scope uses whole None tt e within.0) (seen_in scope t before) ls within.1
  item_told around (iteration i) within =
      let controls = controls_in scope [] around in
      told_broken_by (judged_iteration scope controls i) (turns_rule scope i) i.at (iteration_told controls i within)

  pub body_told : (b : BodyData) → IsBodyWithin uses b → IsTold (judged_body scope b)
  body_told b within =
      let told = body_mapped (WithSelector (IsItemWithin uses)) (λ around i. IsTold (judged_item scope [] around i)) item_told b (body_with_selectors (IsItemWithin uses) b within) in
      given_body scope IsTold told_given b (has_exits IsTold told_given (told_breaks ExitOutsideFor) b) told
