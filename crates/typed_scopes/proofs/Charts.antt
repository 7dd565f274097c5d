-- A chart that breaks no rule is typed, and no EXIT and no RETURN leaves it.
use Rattle.std.proofs.Common.{◌≡◌, List, [], ◌∷◌, length, map, ℕ, ℤ, Bool, true, false, ◌||◌, if◌then◌else◌, None, refl, sym, subst}
use Rattle.std.specs.Prelude.{All}
use Rattle.std.proofs.lemmas.List.{length-map}
use Rattle.std.proofs.lemmas.List.Elements.{All-nil, All-cons, All-head, All-tail}
use Rattle.plc_types.specs.declared.elementary.Elementary.TheVariants as types
use Rattle.source_tree.specs.Syntax.{PartData, step_part, transition_part, action_part, ChartTransitionData, ChartActionData}
use Rattle.source_tree.specs.Levels.{ArePartsLevelled}
use Rattle.source_tree.specs.StatementItems.{every, folded_parts}
use Rattle.program_tree.specs.Tree.{no_statements, statement, Actions}
use Rattle.program_tree.specs.Leaving.{can_exit_all, can_exit_actions, can_return_all, can_return_actions, LeavesNothing}
use Rattle.program_tree.specs.View.{actions_of as actions_from}
use Rattle.sfc_shape.specs.Shapes.{steps_of, transitions_of, actions_of, comes_first, placed, in_firing_order}
use Rattle.rules.specs.declared.rule.Rule.TheVariants.{OperandType}
use Rattle.typing.specs.Typing.{Scope}
use Rattle.typing.specs.Typed.{typed}
use Rattle.typing.specs.TypedStatements.{typed_list}
use Rattle.typing.specs.JudgedStatements.{judged_stmts}
use Rattle.typing.specs.JudgedExits.{judged_exits}
use Rattle.typing.specs.JudgedCharts.{judged_part, judged_parts}
use Rattle.typing.specs.TypedCharts.{step_cells, typed_action, typed_transition, typed_chart}
use Rattle.typing.proofs.Exits.{leaves_nothing}
use Rattle.typed_programs.specs.Scopes.{Pous, BodyScope}
use Rattle.typed_programs.specs.Expressions.{IsOf}
use Rattle.typed_programs.specs.Statements.{IsTypedPart, AreTyped, AreTypedTransitions, AreTypedActions}
use Rattle.typed_scopes.specs.Uses.{Usable, ArePartsWithin}
use Rattle.typed_scopes.specs.Fitting.{ScopeFits}
use Rattle.typed_scopes.specs.Charts.{NamesSteps, IsNamedBySteps, ChartFits}
use Rattle.typed_scopes.proofs.Wholes.{whole_and}
use Rattle.typed_scopes.proofs.SoundItems.{IsSoundWithSelector, sound_parts}
use Rattle.typed_scopes.proofs.Statements.{condition_is, sound_are}

-- ---- transitions in firing order

all_placed : (P : ChartTransitionData → Type 0) (t : ChartTransitionData) (us : List ChartTransitionData) → P t → All P us → All P (placed t us)
all_placed P t [] one all = All-cons P t [] one all
all_placed P t (u ∷ us) one all = by (comes_first u.priority t.priority) (all_placed P t us one (All-tail P u us all))
  where
    by : (c : Bool) → All P (placed t us) → All P (if c then u ∷ placed t us else t ∷ u ∷ us)
    by true rest = All-cons P u (placed t us) (All-head P u us all) rest
    by false rest = All-cons P t (u ∷ us) one all

all_in_order : (P : ChartTransitionData → Type 0) (ts : List ChartTransitionData) → All P ts → All P (in_firing_order ts)
all_in_order P [] all = all
all_in_order P (t ∷ ts) all = all_placed P t (in_firing_order ts) (All-head P t ts all) (all_in_order P ts (All-tail P t ts all))

-- ---- what leaves a chart

neither : (a b : Bool) → a ≡ false → b ≡ false → (a || b) ≡ false
neither a b one other = rw (one, other) refl

-- the lists of a chart's actions
abbrev LeaveNothing : Actions → Type 0
LeaveNothing actions = (can_exit_actions actions ≡ false) × (can_return_actions actions ≡ false)

actions_leave_nothing : (scope : Scope) (all ps : List PartData) → (judged_parts scope ps).whole ≡ true → LeaveNothing (actions_from (map (typed_action scope all) (actions_of ps)))
actions_leave_nothing scope all [] whole = (refl, refl)
actions_leave_nothing scope all (step_part s ∷ ps) whole = actions_leave_nothing scope all ps (whole_and (judged_part scope (step_part s)) (judged_parts scope ps) whole).1
actions_leave_nothing scope all (transition_part t ∷ ps) whole = actions_leave_nothing scope all ps (whole_and (judged_part scope (transition_part t)) (judged_parts scope ps) whole).1
actions_leave_nothing scope all (action_part a ∷ ps) whole =
    let parts = whole_and (judged_part scope (action_part a)) (judged_parts scope ps) whole in
    let own = leaves_nothing scope a.body (whole_and (judged_stmts scope [] a.body) (judged_exits a.body) parts.0).1 in
    let rest = actions_leave_nothing scope all ps parts.1 in
    let behind = actions_from (map (typed_action scope all) (actions_of ps)) in (
      neither (can_exit_all (typed_list scope a.body)) (can_exit_actions behind) own.0 rest.0,
      neither (can_return_all (typed_list scope a.body)) (can_return_actions behind) own.1 rest.1,
    )

pub chart_leaves_nothing : (scope : Scope) (ps : List PartData) → (judged_parts scope ps).whole ≡ true → LeavesNothing (statement (typed_chart scope ps) no_statements)
chart_leaves_nothing scope ps whole =
    let actions = actions_from (map (typed_action scope ps) (actions_of ps)) in
    let leave = actions_leave_nothing scope ps ps whole in
    (neither (can_exit_actions actions) false leave.0 refl, neither (can_return_actions actions) false leave.1 refl)

-- ---- what a chart owes

module _ (pous : Pous) (b : BodyScope) (last : ℕ → ℤ) (scope : Scope) (uses : Usable) (fits : ScopeFits pous b last scope uses) where
  HasCondition : ChartTransitionData → Type 0
  HasCondition t = IsOf pous b types.Bool (typed scope None t.condition)

  HasBody : ChartActionData → Type 0
  HasBody a = AreTyped pous b (typed_list scope a.body)

  conditions_are : (ps : List PartData) → folded_parts (every (IsSoundWithSelector scope uses [])) ps → All HasCondition (transitions_of ps)
  unfolding HasCondition
  conditions_are [] sound = All-nil HasCondition
  conditions_are (step_part s ∷ ps) sound = conditions_are ps sound
  conditions_are (transition_part t ∷ ps) sound =
      let own = sound.0 in
      All-cons HasCondition t (transitions_of ps) (condition_is pous b last scope uses fits OperandType t.condition own.0.0 own.0.1 own.1) (conditions_are ps sound.1)
  conditions_are (action_part a ∷ ps) sound = conditions_are ps sound.1

  bodies_are : (ps : List PartData) → folded_parts (every (IsSoundWithSelector scope uses [])) ps → All HasBody (actions_of ps)
  unfolding HasBody
  bodies_are [] sound = All-nil HasBody
  bodies_are (step_part s ∷ ps) sound = bodies_are ps sound
  bodies_are (transition_part t ∷ ps) sound = bodies_are ps sound.1
  bodies_are (action_part a ∷ ps) sound = All-cons HasBody a (actions_of ps) (sound_are pous b last scope uses fits [] a.body sound.0) (bodies_are ps sound.1)

  transitions_are : (ps : List PartData) (ts : List ChartTransitionData) → All HasCondition ts → All (NamesSteps ps) ts
      → AreTypedTransitions pous b (length (steps_of ps)) (map (typed_transition scope ps) ts)
  unfolding HasCondition
  transitions_are ps [] conditions named = tt
  transitions_are ps (t ∷ ts) conditions named =
      let steps = All-head (NamesSteps ps) t ts named in
      (All-head HasCondition t ts conditions, steps.0, steps.1, transitions_are ps ts (All-tail HasCondition t ts conditions) (All-tail (NamesSteps ps) t ts named))

  actions_are : (ps : List PartData) (as' : List ChartActionData) → All HasBody as' → All (IsNamedBySteps scope ps) as'
      → AreTypedActions pous b (length (steps_of ps)) (actions_from (map (typed_action scope ps) as'))
  unfolding HasBody
  actions_are ps [] bodies named = tt
  actions_are ps (a ∷ rest) bodies named =
      let steps = All-head (IsNamedBySteps scope ps) a rest named in
      (steps.0, steps.1, All-head HasBody a rest bodies, actions_are ps rest (All-tail HasBody a rest bodies) (All-tail (IsNamedBySteps scope ps) a rest named))

  pub chart_is : (ps : List PartData) → ChartFits b scope ps → ArePartsWithin uses ps → ArePartsLevelled ps → (judged_parts scope ps).whole ≡ true → IsTypedPart pous b (typed_chart scope ps)
  chart_is ps chart_fits within levels whole =
      let sound = sound_parts scope uses ps within levels whole in
      let actions = actions_from (map (typed_action scope ps) (actions_of ps)) in
      let ts = map (typed_transition scope ps) (in_firing_order (transitions_of ps)) in
      let count = sym (length-map (steps_of ps) (step_cells scope)) in
      let fire = transitions_are ps (in_firing_order (transitions_of ps)) (all_in_order HasCondition (transitions_of ps) (conditions_are ps sound)) (all_in_order (NamesSteps ps) (transitions_of ps) chart_fits.transitions) in
      let act = actions_are ps (actions_of ps) (bodies_are ps sound) chart_fits.actions in (
        chart_fits.flags,
        chart_fits.rising,
        subst (λ (n : ℕ). AreTypedActions pous b n actions) count act,
        subst (λ (n : ℕ). AreTypedTransitions pous b n ts) count fire,
      )
