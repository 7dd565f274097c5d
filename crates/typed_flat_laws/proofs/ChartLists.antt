-- The flat lists of typed charts are typed.
use Rattle.std.proofs.Common.{◌≡◌, ℕ, ◌+◌, ◌<◌, List, [], ◌∷◌, length, map, refl, subst, arith}
use Rattle.std.specs.Prelude.{None, Some, pos}
use Rattle.plc_types.specs.declared.elementary.Elementary.TheVariants as types
use Rattle.plc_types.specs.declared.operator.Operator.TheVariants.{Or}
use Rattle.program_tree.specs.declared.typed.StepCells.{StepCells}
use Rattle.program_tree.specs.Tree.{number, cell, chain, no_operands, operand, TransitionData, Actions, no_actions, action, chart}
use Rattle.program_tree.specs.ChartPlaces.{chart_places, latch_places, AreSteps}
use Rattle.flat_form.specs.Calls.{scratch_in, before}
use Rattle.flat_form.specs.FlatCharts.{negated, both, latch_test, latch_list, flags_of, exited_flag, entered_flag, clear_flags, ready_term, ready_test, entered_set, fired_list, scratch_of_transitions, flat_transitions, mark_list, scratch_of_moves, flat_moves}
use Rattle.flat_form.specs.Unless.{Flags, without_flags}
use Rattle.flat_form.specs.FlatLists.{scratch_of, scratch_of_all, scratch_of_actions, flat_of, flat_actions}
use Rattle.typed_programs.specs.Statements.{AreTypedTransitions, AreTypedActions, IsTypedChart}
use Rattle.typed_flat_laws.proofs.TypedLists.{typed_both, stand_front, stand_back}
use Rattle.typed_flat_laws.proofs.Standing.{Standing, pous_of}
use Rattle.typed_flat_laws.proofs.Moved.{Stand, moved-is}
use Rattle.typed_flat_laws.proofs.CallLists.{Lists, before-typed}
use Rattle.typed_flat_laws.proofs.ChartTests.{IsTest, AreTests, and-is, StepsAreTests, latch_test-is, runs_test-is}
use Rattle.typed_flat_laws.proofs.ChartCells.{IsFlagAt, flag-is, flag-set, FlagsStand, flags-stand, flags-rest, OwnFlags, own-flags, latches-own, rest-own, steps-are, start-is}
use Rattle.typed_flat_laws.proofs.Leaving.{without_flags-are}
use Rattle.typed_flat_laws.proofs.StatementLists.{list-typed}

module _ (s : Standing) (steps : List StepCells) (each : StepsAreTests s.places s.owner s.base steps) where
  -- ---- latches and actions

  latches-typed : (all : Actions) → OwnFlags s (latch_places all) → AreTypedActions (pous_of s) s.scope (length steps) all → Lists s (latch_list s.owner s.base steps all)
  latches-typed no_actions own h = tt
  latches-typed (action None associations ss rest) own h = latches-typed rest own h.3
  latches-typed (action (Some place) associations ss rest) own h =
      let start = start-is s (Some place) associations ss rest own in
      (flag-set s.places s.typed (s.owner (s.base + place)) (latch_test s.owner s.base steps place associations) own.0 (latch_test-is s.places s.owner s.base steps each place associations start h.1), latches-typed rest own.1 h.3)

  actions-typed : (all : Actions) (k : ℕ) → OwnFlags s (latch_places all) → AreTypedActions (pous_of s) s.scope (length steps) all → Stand s k (scratch_of_actions s.bodies all) → Lists s (flat_actions s.bodies s.owner s.base steps all k)
  actions-typed no_actions k own h stands = tt
  actions-typed (action latch [] ss rest) k own h stands = actions-typed rest (k + 0) (rest-own s latch [] ss rest own) h.3 (stand_back s.places [] (scratch_of_actions s.bodies rest) k stands)
  actions-typed (action latch (a ∷ more) ss rest) k own h stands =
      let body = scratch_of_all s.bodies ss in
      let others = scratch_of_actions s.bodies rest in (
        (runs_test-is s.places s.owner s.base steps each latch (a ∷ more) (start-is s latch (a ∷ more) ss rest own) h.1, list-typed s without_flags ss k h.2 (without_flags-are s.places s.fault) (stand_front s.places body others k stands), tt),
        actions-typed rest (k + length body) (rest-own s latch (a ∷ more) ss rest own) h.3 (stand_back s.places body others k stands),
      )

  -- ---- transitions, whose flags begin at k

  module _ (k : ℕ) (flags : FlagsStand s.places k (length steps)) where
    term-is : (i : ℕ) → i < length steps → IsTest s.places (ready_term s.owner s.base steps k i)
    term-is i low = ((each i low).0, (refl, refl, (refl, flag-is s.places (exited_flag k i) (flags i low).0), refl))

    terms-are : (is : List ℕ) → AreSteps (length steps) is → AreTests s.places (map (ready_term s.owner s.base steps k) is)
    terms-are [] h = tt
    terms-are (i ∷ is) h = (term-is i h.0, terms-are is h.1)

    ready-is : (from : List ℕ) → AreSteps (length steps) from → IsTest s.places (ready_test s.owner s.base steps k from)
    ready-is [] h = refl
    ready-is (f ∷ fs) h = and-is s.places (ready_term s.owner s.base steps k f) (map (ready_term s.owner s.base steps k) fs) (term-is f h.0) (terms-are fs h.1)

    entered-typed : (to : List ℕ) → AreSteps (length steps) to → Lists s (map (entered_set k) to)
    entered-typed [] h = tt
    entered-typed (i ∷ to) h = (flag-set s.places s.typed (entered_flag k i) (number (pos 1)) (flags i h.0).1 refl, entered-typed to h.1)

    fired-typed : (from to : List ℕ) → AreSteps (length steps) from → AreSteps (length steps) to → Lists s (fired_list k from to)
    fired-typed [] to h g = entered-typed to g
    fired-typed (i ∷ from) to h g = (flag-set s.places s.typed (exited_flag k i) (number (pos 1)) (flags i h.0).0 refl, fired-typed from to h.1 g)

    transitions-typed : (ts : List TransitionData) (j : ℕ) → AreTypedTransitions (pous_of s) s.scope (length steps) ts → Stand s j (scratch_of_transitions s.bodies ts) → Lists s (flat_transitions s.bodies s.owner s.base steps k ts j)
    transitions-typed [] j h stands = tt
    transitions-typed (t ∷ ts) j h stands =
        let mine = scratch_in s.bodies t.condition in
        let rest = scratch_of_transitions s.bodies ts in
        let front = stand_front s.places mine rest j stands in (
          (
            ready-is t.from h.1,
            typed_both s.places (before s.bodies s.owner s.base t.condition j) _ (before-typed s types.Bool t.condition j h.0 front)
                ((moved-is s types.Bool t.condition j h.0 front, fired-typed t.from t.to h.1 h.2, tt), tt),
            tt,
          ),
          transitions-typed ts (j + length mine) h.3 (stand_back s.places mine rest j stands),
        )

module _ (s : Standing) where
  clear-typed : (steps : List StepCells) (k : ℕ) → Stand s k (flags_of steps) → Lists s (clear_flags steps k)
  clear-typed [] k h = tt
  clear-typed (p ∷ steps) k h =
      let e : k + 1 + 1 ≡ k + 2 = omega arith in
      (flag-set s.places s.typed k (number (pos 0)) h.0 refl, (flag-set s.places s.typed (k + 1) (number (pos 0)) h.1.0 refl, clear-typed steps (k + 2) (subst (λ j. Stand s j (flags_of steps)) e h.1.1)))

  marks-typed : (steps : List StepCells) (all : Actions) (k : ℕ) → OwnFlags s (chart_places steps all) → FlagsStand s.places k (length steps) → Lists s (mark_list s.owner s.base steps k)
  marks-typed [] all k own flags = tt
  marks-typed (p ∷ steps) all k own flags =
      let a = s.owner (s.base + p.active) in
      let e : exited_flag k 0 ≡ k = omega arith in
      let f : entered_flag k 0 ≡ k + 1 = omega arith in
      let its = flags 0 (omega arith) in
      let was = flag-is s.places a own.0 in
      let out = flag-is s.places k (subst (IsFlagAt s.places) e its.0) in
      let entered = flag-is s.places (k + 1) (subst (IsFlagAt s.places) f its.1) in (
        flag-set s.places s.typed (s.owner (s.base + p.before)) (cell a) own.1.0 was,
        (flag-set s.places s.typed a (chain (both (cell a) (negated (cell k))) (operand Or types.Bool (cell (k + 1)) no_operands)) own.0 ((was, (refl, refl, (refl, out), refl)), (refl, refl, entered, refl)), marks-typed steps all (k + 2) own.1.1 (flags-rest s.places k (length steps) flags)),
      )

  moves-typed : (steps : List StepCells) (all : Actions) → OwnFlags s (chart_places steps all) → (ts : List TransitionData) → AreTypedTransitions (pous_of s) s.scope (length steps) ts → (k : ℕ) → Stand s k (scratch_of_moves s.bodies steps ts)
      → Lists s (flat_moves s.bodies s.owner s.base steps ts k)
  moves-typed steps all own ts h k stands =
      let mine = flags_of steps in
      let rest = scratch_of_transitions s.bodies ts in
      let j = k + length mine in
      let front = stand_front s.places mine rest k stands in
      let flags = flags-stand s.places steps k front in
      typed_both s.places (clear_flags steps k) _ (clear-typed steps k front)
      (typed_both s.places (flat_transitions s.bodies s.owner s.base steps k ts j) _ (transitions-typed s steps (steps-are s steps all own) k flags ts j h (stand_back s.places mine rest k stands)) (marks-typed steps all k own flags))

  pub chart-typed : (flags : Flags) (steps : List StepCells) (all : Actions) (ts : List TransitionData) (k : ℕ) → IsTypedChart (pous_of s) s.scope steps all ts → Stand s k (scratch_of s.bodies (chart steps all ts))
      → Lists s (flat_of s.bodies s.owner s.base flags (chart steps all ts) k)
  chart-typed flags steps all ts k h stands =
      let own = own-flags s (chart_places steps all) h.0 in
      let latches = latches-own s steps all own in
      let each = steps-are s steps all own in
      let made = scratch_of_actions s.bodies all in
      let rest = scratch_of_moves s.bodies steps ts in
      let j = k + length made in
      typed_both s.places (latch_list s.owner s.base steps all) _ (latches-typed s steps each all latches h.2)
      (typed_both s.places (flat_actions s.bodies s.owner s.base steps all k) _ (actions-typed s steps each all k latches h.2 (stand_front s.places made rest k stands))
      (moves-typed steps all own ts h.3 j (stand_back s.places made rest k stands)))
