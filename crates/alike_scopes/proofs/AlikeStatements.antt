-- Statements and charts that are whole over one scope are whole over another that differs in the places of cells alone, where the cells of control variables are apart in both.
use Rattle.std.proofs.Common.{◌≡◌, ℕ, List, [], ◌∷◌, Bool, true, false, not, ◌&&◌, Option, Some, None, if◌then◌else◌, refl, sym, ap, ◌∙◌, subst}
use Rattle.std.specs.List.{list_all}
use Rattle.std.proofs.lemmas.Bool.{and_from, and_parts, false≢true}
use Rattle.plc_types.specs.declared.data_type.DataType.{DataType}
use Rattle.plc_types.specs.declared.range.Range.{Range}
use Rattle.plc_types.specs.DataTypes.{is_same_type, is_integer_type}
use Rattle.rules.specs.declared.rule.Rule.{Rule}
use Rattle.rules.specs.declared.rule.Rule.TheVariants.{OperandType, ValueType, ArgumentCount, NotAssignable}
use Rattle.rules.specs.Judgements.{Judgement, and, breaks, require}
use Rattle.source_tree.specs.Syntax.{Named, PathData, Tree, ConnectionData, input, output, LabelData, IterationData, BodyData}
use Rattle.source_tree.specs.StatementItems.{StatementItem, assignment, invocation, condition, selector, labels, iteration, every}
use Rattle.source_tree.proofs.StatementInduction.{related_body}
use Rattle.source_tree.proofs.EveryItem.{carried as items_carried}
use Rattle.naming.specs.Broken.{alone}
use Rattle.typing.specs.Typing.{Reference, Scope, by_path, kind_at, or_dint, type_of}
use Rattle.typing.specs.Judged.{judged, judged_meaning, judged_condition}
use Rattle.typing.specs.Labels.{seen_behind}
use Rattle.typing.specs.JudgedStatements.{is_assignable, judged_target, judged_assign, is_control, member, judged_input, judged_output, judged_connections, connects_twice, has_right_arrow, judged_invoke, may_control, judged_control, judged_bound, judged_step, is_typed, step_is_typed, judged_iteration, turns_rule, broken_by, judged_selector, judged_labels_if}
use Rattle.typing.specs.JudgedItems.{controls_in, seen_in, judged_item, IsWholeItem}
use Rattle.typing.proofs.JudgedItems.{IsWhole, whole_broken_by, whole_given, whole_shared, given_body, shared_body, shared_exits}
use Rattle.typing.specs.Pous.{judged_body}
use Rattle.bound_names.specs.typed_scopes.Uses.{Usable, AreConnectionsWithin, IsItemWithin}
use Rattle.bound_names.proofs.typed_scopes.Wholes.{whole_require, whole_and}
use Rattle.bound_names.specs.BoundNames.{IsBodyWithin}
use Rattle.alike_scopes.specs.AlikeScopes.{AreAlike}
use Rattle.alike_scopes.proofs.AlikeNames.{kind_alike, meaning_alike, control_alike, input_alike}
use Rattle.alike_scopes.proofs.AlikeTrees.{type_alike, judged_alike, condition_alike}
use Rattle.alike_scopes.proofs.AlikeControls.{AreApart, AreAlikeControls, no_controls, more_controls}
use Rattle.alike_scopes.proofs.AlikeLabels.{seen_alike, labels_if_alike, selector_alike, bounds_alike, typed_bounds_alike, turns_alike}

required : (j : Judgement) (rule : Rule) (at : ℕ) → j.whole ≡ true → (w h : Bool) → w ≡ true → h ≡ true → (if w then (if h then j else and j (breaks rule at)) else j).whole ≡ true
required j rule at whole true true a b = whole
required j rule at whole true false a b = absurd (false≢true b)
required j rule at whole false h a b = whole

-- a construct with whole parts, whose test holds, is whole
pub require_from : (j : Judgement) (h : Bool) (rule : Rule) (at : ℕ) → j.whole ≡ true → h ≡ true → (require j h rule at).whole ≡ true
require_from j h rule at whole holds = required j rule at whole j.whole h whole holds

broken_by_whole : (j : Judgement) (rule : Option Rule) (at : ℕ) → rule ≡ None → j.whole ≡ true → (broken_by j rule at).whole ≡ true
broken_by_whole j rule at none whole = ap (λ (x : Option Rule). (broken_by j x at).whole) none ∙ whole

carried : (j k : Judgement) → j ≡ k → j.whole ≡ true → k.whole ≡ true
carried j k same h = subst (λ (x : Judgement). x.whole ≡ true) same h

module _ (s t : Scope) (alike : AreAlike s t) (uses : Usable) (apart : AreApart uses s t) where
  abbrev Controls : List ℕ → List ℕ → Type 0
  Controls c d = AreAlikeControls s t alike uses apart c d

  module _ (r : Reference) where
    meanings : judged_meaning (s.means r) ≡ judged_meaning (t.means r)
    meanings = meaning_alike (s.means r) (t.means r) (alike.means r)

    kinds : kind_at (s.means r) ≡ kind_at (t.means r)
    kinds = kind_alike (s.means r) (t.means r) (alike.means r)

    values : (e : Tree) → judged s (kind_at (s.means r)) e ≡ judged t (kind_at (t.means r)) e
    values e = judged_alike s t alike (kind_at (s.means r)) e ∙ ap (λ (k : Option DataType). judged t k e) kinds

    fits : (e : Tree) → is_same_type (type_of s (kind_at (s.means r)) e) (or_dint (kind_at (s.means r))) ≡ is_same_type (type_of t (kind_at (t.means r)) e) (or_dint (kind_at (t.means r)))
    fits e =
        ap (λ (k : DataType). is_same_type k (or_dint (kind_at (s.means r)))) (type_alike s t alike (kind_at (s.means r)) e) ∙ ap (λ (k : Option DataType). is_same_type (type_of t k e) (or_dint k)) kinds

  target_too : (c d : List ℕ) → Controls c d → (r : Reference) (at : ℕ) → uses.names r ≡ true → (judged_target c (s.means r) at).whole ≡ true → (judged_target d (t.means r) at).whole ≡ true
  target_too c d controls r at named h =
      let two = whole_require (judged_meaning (s.means r)) (is_assignable c (s.means r)) NotAssignable at h in
      require_from (judged_meaning (t.means r)) (is_assignable d (t.means r)) NotAssignable at (carried (judged_meaning (s.means r)) (judged_meaning (t.means r)) (meanings r) two.0) (controls r named two.1)

  assign_too : (c d : List ℕ) → Controls c d → (p : PathData) (e : Tree) → uses.names (by_path p) ≡ true → (judged_assign s c p e).whole ≡ true → (judged_assign t d p e).whole ≡ true
  assign_too c d controls p e named h =
      let r = by_path p in
      let at = p.first.at in
      let value = judged s (kind_at (s.means r)) e in
      let two = whole_require (and (judged_target c (s.means r) at) value) (is_same_type (type_of s (kind_at (s.means r)) e) (or_dint (kind_at (s.means r)))) ValueType at h in
      let parts = whole_and (judged_target c (s.means r) at) value two.0 in
      let other = judged t (kind_at (t.means r)) e in
      require_from (and (judged_target d (t.means r) at) other) (is_same_type (type_of t (kind_at (t.means r)) e) (or_dint (kind_at (t.means r)))) ValueType at
      (and_from (judged_target d (t.means r) at).whole other.whole (target_too c d controls r at named parts.0) (carried value other (values r e) parts.1)) (sym (fits r e) ∙ two.1)

  -- ---- calls of instances

  input_too : (r : Reference) (x : Named) (e : Tree) → judged_input s (s.means r) x e ≡ judged_input t (t.means r) x e
  input_too r x e = λ i. require (and (meanings r i) (values r e i)) (fits r e i) ValueType x.at

  output_too : (c d : List ℕ) → Controls c d → (r q : Reference) (at : ℕ) → uses.names q ≡ true → (judged_output c (s.means r) (s.means q) at).whole ≡ true → (judged_output d (t.means r) (t.means q) at).whole ≡ true
  output_too c d controls r q at named h =
      let two = whole_require (and (judged_meaning (s.means r)) (judged_target c (s.means q) at)) (is_same_type (or_dint (kind_at (s.means q))) (or_dint (kind_at (s.means r)))) ValueType at h in
      let parts = whole_and (judged_meaning (s.means r)) (judged_target c (s.means q) at) two.0 in
      require_from (and (judged_meaning (t.means r)) (judged_target d (t.means q) at)) (is_same_type (or_dint (kind_at (t.means q))) (or_dint (kind_at (t.means r)))) ValueType at
      (and_from (judged_meaning (t.means r)).whole (judged_target d (t.means q) at).whole (carried (judged_meaning (s.means r)) (judged_meaning (t.means r)) (meanings r) parts.0) (target_too c d controls q at named parts.1))
      (sym (λ i. is_same_type (or_dint (kinds q i)) (or_dint (kinds r i))) ∙ two.1)

  connections_too : (c d : List ℕ) → Controls c d → (n : Named) (cs : List ConnectionData) → AreConnectionsWithin uses n cs → (judged_connections s c n cs).whole ≡ true → (judged_connections t d n cs).whole ≡ true
  connections_too c d controls n [] within h = refl
  connections_too c d controls n (input x e ∷ cs) within h =
      let r = by_path (member n x) in
      let one = judged_input s (s.means r) x e in
      let other = judged_input t (t.means r) x e in
      let two = whole_and one (judged_connections s c n cs) h in
      and_from other.whole (judged_connections t d n cs).whole (carried one other (input_too r x e) two.0) (connections_too c d controls n cs within.2 two.1)
  connections_too c d controls n (output y p ∷ cs) within h =
      let r = by_path (member n y) in
      let q = by_path p in
      let two = whole_and (judged_output c (s.means r) (s.means q) p.first.at) (judged_connections s c n cs) h in
      and_from (judged_output d (t.means r) (t.means q) p.first.at).whole (judged_connections t d n cs).whole (output_too c d controls r q p.first.at within.1 two.0) (connections_too c d controls n cs within.2 two.1)

  arrow_alike : (n : Named) (x : ConnectionData) → has_right_arrow s n x ≡ has_right_arrow t n x
  arrow_alike n (input x e) = let r = by_path (member n x) in input_alike (s.means r) (t.means r) (alike.means r)
  arrow_alike n (output y p) = let r = by_path (member n y) in ap not (input_alike (s.means r) (t.means r) (alike.means r))

  arrows_alike : (n : Named) (cs : List ConnectionData) → list_all (has_right_arrow s n) cs ≡ list_all (has_right_arrow t n) cs
  arrows_alike n [] = refl
  arrows_alike n (x ∷ cs) = λ i. arrow_alike n x i && arrows_alike n cs i

  invoke_too : (c d : List ℕ) → Controls c d → (n : Named) (cs : List ConnectionData) → AreConnectionsWithin uses n cs → (judged_invoke s c n cs).whole ≡ true → (judged_invoke t d n cs).whole ≡ true
  invoke_too c d controls n cs within h =
      let two = whole_require (judged_connections s c n cs) (not (connects_twice [] cs) && list_all (has_right_arrow s n) cs) ArgumentCount n.at h in
      require_from (judged_connections t d n cs) (not (connects_twice [] cs) && list_all (has_right_arrow t n) cs) ArgumentCount n.at (connections_too c d controls n cs within two.0)
      (sym (ap (λ (b : Bool). not (connects_twice [] cs) && b) (arrows_alike n cs)) ∙ two.1)

  -- ---- FOR

  module _ (c d : List ℕ) (controls : Controls c d) (i : IterationData) (named : uses.names (by_path (alone i.control)) ≡ true) (h : (judged_iteration s c i).whole ≡ true) where
    r : Reference
    r = by_path (alone i.control)

    bounds : Scope → Judgement
    bounds x = let k = or_dint (kind_at (x.means (by_path (alone i.control)))) in and (judged_bound x k i.first) (and (judged_bound x k i.last) (judged_step x k i.step))

    typed_bounds : Scope → Bool
    typed_bounds x = let k = or_dint (kind_at (x.means (by_path (alone i.control)))) in is_typed x k i.first && is_typed x k i.last && step_is_typed x k i.step

    parts : ((judged_control c (s.means (by_path (alone i.control))) i.control.at).whole ≡ true) × ((bounds s).whole ≡ true) × (typed_bounds s ≡ true)
    unfolding bounds typed_bounds
    parts =
        let two = whole_require (and (judged_control c (s.means (by_path (alone i.control))) i.control.at) (bounds s)) (typed_bounds s) ValueType i.control.at h in
        let one = whole_and (judged_control c (s.means (by_path (alone i.control))) i.control.at) (bounds s) two.0 in
        (one.0, one.1, two.1)

    control : ((judged_meaning (s.means (by_path (alone i.control)))).whole ≡ true) × (may_control c (s.means (by_path (alone i.control))) ≡ true)
    control = whole_require (judged_meaning (s.means (by_path (alone i.control)))) (may_control c (s.means (by_path (alone i.control)))) NotAssignable i.control.at parts.0

    tests : (is_assignable c (s.means (by_path (alone i.control))) ≡ true) × (is_control (s.means (by_path (alone i.control))) ≡ true) × (is_integer_type (or_dint (kind_at (s.means (by_path (alone i.control))))) ≡ true)
    tests =
        let m = s.means (by_path (alone i.control)) in
        let two = and_parts (is_assignable c m && is_control m) (is_integer_type (or_dint (kind_at m))) control.1 in
        let one = and_parts (is_assignable c m) (is_control m) two.0 in
        (one.0, one.1, two.1)

    pub is_control_variable : is_control (s.means (by_path (alone i.control))) ≡ true
    is_control_variable = tests.1

    control_too : (judged_control d (t.means (by_path (alone i.control))) i.control.at).whole ≡ true
    control_too =
        let q = by_path (alone i.control) in
        let m = t.means q in
        let assignable : is_assignable d m ≡ true = controls q named tests.0 in
        let controlling : is_control m ≡ true = sym (control_alike (s.means q) m (alike.means q)) ∙ tests.1 in
        let integer : is_integer_type (or_dint (kind_at m)) ≡ true = sym (ap (λ (k : Option DataType). is_integer_type (or_dint k)) (kinds q)) ∙ tests.2 in
        require_from (judged_meaning m) (may_control d m) NotAssignable i.control.at (carried (judged_meaning (s.means q)) (judged_meaning m) (meanings q) control.0)
        (and_from (is_assignable d m && is_control m) (is_integer_type (or_dint (kind_at m))) (and_from (is_assignable d m) (is_control m) assignable controlling) integer)

    pub iteration_too : (judged_iteration t d i).whole ≡ true
    unfolding bounds typed_bounds
    iteration_too =
        let at = i.control.at in
        let m = t.means (by_path (alone i.control)) in
        require_from (and (judged_control d m at) (bounds t)) (typed_bounds t) ValueType at
        (and_from (judged_control d m at).whole (bounds t).whole control_too (carried (bounds s) (bounds t) (bounds_alike s t alike i) parts.1)) (sym (typed_bounds_alike s t alike i) ∙ parts.2)

  -- ---- items

  seen_in_alike : (k : DataType) (before : List (List LabelData)) → seen_in s k before ≡ seen_in t k before
  seen_in_alike k [] = refl
  seen_in_alike k (ls ∷ before) = ap (λ (x : List Range). seen_behind s k x ls) (seen_in_alike k before) ∙ seen_alike s t alike k (seen_in t k before) ls

  labels_too : (e : Tree) (before : List (List LabelData)) (ls : List LabelData) → judged_item s [] [] (labels e before ls) ≡ judged_item t [] [] (labels e before ls)
  labels_too e before ls =
      let w = (judged_selector s e).whole in
      let k = type_of s None e in
      ap (λ (x : List Range). judged_labels_if s w k x ls) (seen_in_alike k before) ∙ labels_if_alike s t alike w k (seen_in t k before) ls
      ∙ ap (λ (x : DataType). judged_labels_if t w x (seen_in t x before) ls) (type_alike s t alike None e)
      ∙ ap (λ (j : Judgement). judged_labels_if t j.whole (type_of t None e) (seen_in t (type_of t None e) before) ls) (selector_alike s t alike e)

  -- the control variables of the FORs around are apart alike
  abbrev Around : List IterationData → Type 0
  Around around = Controls (controls_in s [] around) (controls_in t [] around)

  around_more : (around : List IterationData) (i : IterationData) → Around around → IsItemWithin uses around (iteration i) → IsWholeItem s [] around (iteration i) → Around (i ∷ around)
  around_more around i controls within h =
      let c = controls_in s [] around in
      let d = controls_in t [] around in
      let own = whole_broken_by (judged_iteration s c i) (turns_rule s i) i.at h in
      more_controls s t alike uses apart c d controls (by_path (alone i.control)) within.0 (is_control_variable c d controls i within.0 own.0)

  item_too : (around : List IterationData) (i : StatementItem) → Around around → IsItemWithin uses around i → IsWholeItem s [] around i → IsWholeItem t [] around i
  item_too around (assignment p e) controls within h = assign_too (controls_in s [] around) (controls_in t [] around) controls p e within.0 h
  item_too around (invocation n at cs) controls within h = invoke_too (controls_in s [] around) (controls_in t [] around) controls n cs within h
  item_too around (condition e) controls within h = carried (judged_condition s OperandType e) (judged_condition t OperandType e) (condition_alike s t alike OperandType e) h
  item_too around (selector e) controls within h = carried (judged_selector s e) (judged_selector t e) (selector_alike s t alike e) h
  item_too around (labels e before ls) controls within h = carried (judged_item s [] [] (labels e before ls)) (judged_item t [] [] (labels e before ls)) (labels_too e before ls) h
  item_too around (iteration i) controls within h =
      let c = controls_in s [] around in
      let d = controls_in t [] around in
      let own = whole_broken_by (judged_iteration s c i) (turns_rule s i) i.at h in
      let none : turns_rule t i ≡ None = sym (turns_alike s t alike i) ∙ own.1 in
      broken_by_whole (judged_iteration t d i) (turns_rule t i) i.at none (iteration_too c d controls i within.0 own.0)

  pub body_too : (b : BodyData) → IsBodyWithin uses b → (judged_body s b).whole ≡ true → (judged_body t b).whole ≡ true
  body_too b within h =
      let every_too = items_carried Around (IsItemWithin uses) (IsWholeItem s []) (IsWholeItem t []) around_more item_too in
      given_body t IsWhole whole_given b (shared_exits s IsWhole whole_shared b h)
      (related_body (every (IsItemWithin uses)) (every (IsWholeItem s [])) (every (IsWholeItem t [])) (λ around A B C. Around around → A → B → C) every_too b (no_controls s t alike uses apart) within
      (shared_body s IsWhole whole_shared b h))
