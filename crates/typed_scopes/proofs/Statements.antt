-- Statements that break no rule are typed, item by item.
use Rattle.std.proofs.Common.{◌≡◌, List, [], ◌∷◌, ℕ, ℤ, Bool, true, false, ◌&&◌, Option, Some, None, refl}
use Rattle.std.proofs.lemmas.Bool.{and_parts, false≢true}
use Rattle.plc_types.specs.declared.elementary.Elementary.TheVariants as types
use Rattle.plc_types.specs.declared.data_type.DataType.{DataType}
use Rattle.plc_types.specs.declared.data_type.DataType.TheVariants as kinds
use Rattle.plc_types.specs.declared.range.Range.{Range}
use Rattle.plc_types.specs.DataTypes.{carrier, is_same_type, is_integer_type}
use Rattle.source_tree.specs.Syntax.{PathData, Tree, Stmts, LabelData, IterationData}
use Rattle.source_tree.specs.StatementItems.{every, folded_stmts}
use Rattle.source_tree.specs.Levels.{IsLevelled, AreLabels, AreLabelsFormed, AreStmtsLevelled}
use Rattle.program_tree.specs.Tree.{assign as typed_assign}
use Rattle.program_tree.specs.StatementItems.{every as typed_every}
use Rattle.rules.specs.declared.rule.Rule.{Rule}
use Rattle.rules.specs.declared.rule.Rule.TheVariants.{OperandType, ValueType, NotAssignable}
use Rattle.rules.specs.Judgements.{Judgement, and}
use Rattle.program_tree.specs.Places.{place_at}
use Rattle.naming.specs.Broken.{alone}
use Rattle.meaning.specs.StaysIn.{turns_stay}
use Rattle.typing.specs.Typing.{Scope, bool_type, by_path, kind_at, or_dint, type_of, place_of, is_unknown}
use Rattle.typing.specs.Judged.{judged, judged_meaning, judged_condition}
use Rattle.typing.specs.Typed.{typed}
use Rattle.typing.specs.Labels.{judged_labels}
use Rattle.typing.specs.JudgedStatements.{is_assignable, judged_target, judged_assign, is_control, may_control, judged_control, judged_bound, judged_step, is_typed, step_is_typed, judged_iteration, bound_value, step_value, turns_rule, may_select, judged_selector, judged_labels_if, judged_stmts}
use Rattle.typing.specs.JudgedItems.{controls_in, seen_in}
use Rattle.typing.proofs.JudgedItems.{whole_broken_by}
use Rattle.typing.proofs.TypedItems.{turns_in, AreTypedAlike, typed_alike}
use Rattle.typing.specs.TypedStatements.{cell_of, turns_of, typed_invoke, typed_stmts, typed_list}
use Rattle.typed_programs.specs.Scopes.{Pous, BodyScope, IsSettable}
use Rattle.typed_programs.specs.Expressions.{IsOf}
use Rattle.typed_programs.specs.Statements.{IsTyped, AreTyped}
use Rattle.typed_programs.specs.TypedItems.{IsTypedItem}
use Rattle.typed_programs.proofs.TypedItems.{typed_statements, typed_in_own_body}
use Rattle.typed_scopes.specs.Uses.{Usable, IsWithin, AreStmtsWithin}
use Rattle.typed_scopes.specs.Fitting.{ScopeFits}
use Rattle.typed_scopes.proofs.Wholes.{whole_require, whole_and}
use Rattle.typed_scopes.proofs.TypedValues.{fitted}
use Rattle.typed_scopes.proofs.Expressions.{value_is}
use Rattle.typed_scopes.proofs.Labels.{labels_are}
use Rattle.typed_scopes.proofs.Targets.{is_input, assigned, controlled}
use Rattle.typed_scopes.proofs.Lists.{typed-before}
use Rattle.typed_scopes.proofs.Invocations.{invoke_is}
use Rattle.typed_scopes.proofs.SoundItems.{IsSoundWithSelector, sound_items}

selector_known : (t : DataType) → may_select t ≡ true → is_unknown t ≡ false
selector_known (kinds.Elementary k) h = refl
selector_known (kinds.Enumeration n) h = refl
selector_known kinds.Unknown h = absurd (false≢true h)

labels_if_whole : (scope : Scope) (w : Bool) → w ≡ true → (t : DataType) (seen : List Range) (ls : List LabelData) → (judged_labels_if scope w t seen ls).whole ≡ true → (judged_labels scope t seen ls).whole ≡ true
labels_if_whole scope true is t seen ls whole = whole
labels_if_whole scope false is t seen ls whole = absurd (false≢true is)

labels_formed : (ls : List LabelData) → AreLabels ls → AreLabelsFormed ls
labels_formed [] h = absurd h
labels_formed (l ∷ ls) h = h

module _ (pous : Pous) (b : BodyScope) (last : ℕ → ℤ) (scope : Scope) (uses : Usable) (fits : ScopeFits pous b last scope uses) where
  pub condition_is : (rule : Rule) (e : Tree) → IsWithin uses e → IsLevelled e → (judged_condition scope rule e).whole ≡ true → IsOf pous b types.Bool (typed scope None e)
  condition_is rule e within levels whole =
      let parts = whole_require (judged scope None e) (is_same_type (type_of scope None e) bool_type) rule (place_of e) whole in
      (fitted pous b last (type_of scope None e) bool_type (typed scope None e) parts.1 (value_is pous b last scope uses fits None e within levels parts.0)).typed

  assign_is : (controls : List ℕ) (p : PathData) (e : Tree) → uses.names (by_path p) ≡ true → IsWithin uses e → IsLevelled e → (judged_assign scope controls p e).whole ≡ true
      → IsTyped pous b (typed_assign (cell_of (scope.means (by_path p))) (typed scope (kind_at (scope.means (by_path p))) e))
  assign_is controls p e named within levels whole =
      let m = scope.means (by_path p) in
      let at = p.first.at in
      let fitting = whole_require (and (judged_target controls m at) (judged scope (kind_at m) e)) (is_same_type (type_of scope (kind_at m) e) (or_dint (kind_at m))) ValueType at whole in
      let both = whole_and (judged_target controls m at) (judged scope (kind_at m) e) fitting.0 in
      let target = whole_require (judged_meaning m) (is_assignable controls m) NotAssignable at both.0 in
      assigned pous b last scope m (fits.names (by_path p) named) target.0 (is_input controls m target.1) e (value_is pous b last scope uses fits (kind_at m) e within levels both.1) fitting.1

  selector_is : (e : Tree) → IsWithin uses e → IsLevelled e → (judged_selector scope e).whole ≡ true → IsOf pous b (carrier (type_of scope None e)) (typed scope None e)
  selector_is e within levels whole =
      let t = type_of scope None e in
      let selected = whole_require (judged scope None e) (may_select t) OperandType (place_of e) whole in
      (value_is pous b last scope uses fits None e within levels selected.0 (selector_known t selected.1)).typed

  turns_are : (controls : List ℕ) (i : IterationData) → uses.names (by_path (alone i.control)) ≡ true → (judged_iteration scope controls i).whole ≡ true → turns_rule scope i ≡ None
      → IsSettable b (turns_of scope i).control × (turns_stay (turns_of scope i) (place_at b.places (turns_of scope i).control).range ≡ true)
  turns_are controls i named whole rule =
      let m = scope.means (by_path (alone i.control)) in
      let t = or_dint (kind_at m) in
      let bounds = and (judged_bound scope t i.first) (and (judged_bound scope t i.last) (judged_step scope t i.step)) in
      let parts = whole_require (and (judged_control controls m i.control.at) bounds) (is_typed scope t i.first && is_typed scope t i.last && step_is_typed scope t i.step) ValueType i.control.at whole in
      let control = whole_require (judged_meaning m) (may_control controls m) NotAssignable i.control.at (whole_and (judged_control controls m i.control.at) bounds parts.0).0 in
      let tests = and_parts (is_assignable controls m && is_control m) (is_integer_type t) control.1 in
      let assignable = (and_parts (is_assignable controls m) (is_control m) tests.0).0 in
      let integer = tests.1 in
      controlled pous b last scope m (fits.names (by_path (alone i.control)) named) control.0 (is_input controls m assignable) integer (bound_value scope t i.first) (bound_value scope t i.last) (step_value scope t i.step) rule

  item_is : (outer : List ℕ) → AreTypedAlike scope (every (IsSoundWithSelector scope uses outer)) (typed_every (IsTypedItem pous b)) (λ around A B. A → B)
  item_is outer = record {
    none = λ around h. tt;
    both = λ around A A' B B' f g h. (f h.0, g h.1);
    left_out = λ around A B f h. f h.1;
    assigned = λ around p e h. assign_is (controls_in scope outer around) p e h.0.0.0 h.0.0.1 h.0.1 h.1;
    invoked = λ around n at cs A rest f h.
        typed-before pous b (turns_in scope around) (typed_invoke scope n cs) rest (invoke_is pous b last scope uses fits (controls_in scope outer around) n cs h.0.0.0 h.0.0.1 h.0.1) (f h.1);
    tested = λ around e h. condition_is OperandType e h.0.0 h.0.1 h.1;
    selected = λ around e h. selector_is e h.0.0 h.0.1 h.1;
    labelled = λ around e before ls h.
        let t = type_of scope None e in
        let seen = seen_in scope t before in
        labels_are pous b last scope uses fits t seen ls h.1.0.0 (labels_formed ls h.1.0.1) (labels_if_whole scope (judged_selector scope e).whole h.0.1 t seen ls h.1.1);
    inside = λ around i A B f h.
        let own = whole_broken_by (judged_iteration scope (controls_in scope outer around) i) (turns_rule scope i) i.at h.0.1 in
        let turns = turns_are (controls_in scope outer around) i h.0.0.0.0 own.0 own.1 in
        ((turns.0, turns.1, tt), f h.1);
  }

  sound_stmts_are : (outer : List ℕ) (ss : Stmts) → folded_stmts (every (IsSoundWithSelector scope uses outer)) [] ss → AreTyped pous b (typed_stmts scope ss)
  sound_stmts_are outer ss sound =
      typed_statements pous b [] (typed_stmts scope ss) (typed_alike scope (every (IsSoundWithSelector scope uses outer)) (typed_every (IsTypedItem pous b)) (λ around A B. A → B) (item_is outer) [] ss sound)

  -- the statements of a POU or of an action
  pub sound_are : (outer : List ℕ) (ss : Stmts) → folded_stmts (every (IsSoundWithSelector scope uses outer)) [] ss → AreTyped pous b (typed_list scope ss)
  sound_are outer ss sound = typed_in_own_body pous b (typed_stmts scope ss) (sound_stmts_are outer ss sound)

  pub stmts_are : (controls : List ℕ) (ss : Stmts) → AreStmtsWithin uses ss → AreStmtsLevelled ss → (judged_stmts scope controls ss).whole ≡ true → AreTyped pous b (typed_stmts scope ss)
  stmts_are controls ss within levels whole = sound_stmts_are controls ss (sound_items scope uses controls ss within levels whole)

  pub list_is : (ss : Stmts) → AreStmtsWithin uses ss → AreStmtsLevelled ss → (judged_stmts scope [] ss).whole ≡ true → AreTyped pous b (typed_list scope ss)
  list_is ss within levels whole = typed_in_own_body pous b (typed_stmts scope ss) (stmts_are [] ss within levels whole)
