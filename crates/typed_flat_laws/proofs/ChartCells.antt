-- The cells of a chart and its scratch cells stand at places that take each BOOL.
use Rattle.std.proofs.Common.{◌≡◌, ℕ, suc, zero, ◌+◌, ◌<◌, List, [], ◌∷◌, length, refl, ap, subst, ◌∙◌, arith}
use Rattle.std.specs.Prelude.{slice_index_or, All, Option, None, Some}
use Rattle.std.proofs.lemmas.List.Elements.{All-head, All-tail}
use Rattle.plc_types.specs.declared.elementary.Elementary.TheVariants as types
use Rattle.program_tree.specs.declared.typed.StepCells.{StepCells}
use Rattle.program_tree.specs.declared.typed.Association.{Association}
use Rattle.program_tree.specs.Tree.{Expression, cell, Statements, Actions, action}
use Rattle.program_tree.specs.declared.scratch.Scratch.{Scratch}
use Rattle.program_tree.specs.Places.{whole_cell, place_at, IsTypedPlace}
use Rattle.program_tree.specs.ChartPlaces.{chart_places, latch_places}
use Rattle.flat_core.specs.FlatTree.{set}
use Rattle.flat_form.specs.FlatCharts.{no_step, latch_start, flags_of, exited_flag, entered_flag}
use Rattle.node_core.specs.TypedFlats.{IsTypedFlatOver}
use Rattle.typed_programs.specs.Statements.{IsFlagOf}
use Rattle.typed_flat_laws.proofs.TypedLists.{takes_at, whole_takes, StandFrom}
use Rattle.typed_flat_laws.proofs.Standing.{Standing}
use Rattle.typed_flat_laws.proofs.ChartTests.{IsTest, StepsAreTests}

module _ (ps : List Scratch) where
  abbrev pub IsFlagAt : ℕ → Type 0
  IsFlagAt place = place_at ps place ≡ whole_cell types.Bool

  pub flag-is : (place : ℕ) → IsFlagAt place → IsTest ps (cell place)
  flag-is place is = ap (λ (p : Scratch). p.kind) is

  -- a flag takes each test
  pub flag-set : All IsTypedPlace ps → (place : ℕ) (e : Expression) → IsFlagAt place → IsTest ps e → IsTypedFlatOver ps (set place e)
  flag-set typed place e is h = takes_at ps place (whole_cell types.Bool) e is (whole_takes ps typed (whole_cell types.Bool) e refl h)

  -- ---- the scratch cells of a chart

  abbrev pub FlagsStand : ℕ → ℕ → Type 0
  FlagsStand k n = (i : ℕ) → i < n → IsFlagAt (exited_flag k i) × IsFlagAt (entered_flag k i)

  pub flags-stand : (steps : List StepCells) (k : ℕ) → StandFrom ps k (flags_of steps) → FlagsStand k (length steps)
  flags-stand [] k h i low = absurd (omega arith)
  flags-stand (p ∷ steps) k h zero low =
      let e : k ≡ exited_flag k 0 = omega arith in
      let f : k + 1 ≡ entered_flag k 0 = omega arith in
      (subst IsFlagAt e h.0, subst IsFlagAt f h.1.0)
  flags-stand (p ∷ steps) k h (suc i) low =
      let g : k + 1 + 1 ≡ k + 2 = omega arith in
      let its = flags-stand steps (k + 2) (subst (λ j. StandFrom ps j (flags_of steps)) g h.1.1) i (omega arith) in
      let e : exited_flag (k + 2) i ≡ exited_flag k (suc i) = omega arith in
      let f : entered_flag (k + 2) i ≡ entered_flag k (suc i) = omega arith in
      (subst IsFlagAt e its.0, subst IsFlagAt f its.1)

  pub flags-rest : (k n : ℕ) → FlagsStand k (suc n) → FlagsStand (k + 2) n
  flags-rest k n h i low =
      let its = h (suc i) (omega arith) in
      let e : exited_flag k (suc i) ≡ exited_flag (k + 2) i = omega arith in
      let f : entered_flag k (suc i) ≡ entered_flag (k + 2) i = omega arith in
      (subst IsFlagAt e its.0, subst IsFlagAt f its.1)

-- ---- its cells

module _ (s : Standing) where
  abbrev pub OwnFlag : ℕ → Type 0
  OwnFlag place = IsFlagAt s.places (s.owner (s.base + place))

  abbrev pub OwnFlags : List ℕ → Type 0
  OwnFlags [] = Unit {0}
  OwnFlags (p ∷ places) = OwnFlag p × OwnFlags places

  pub own-flags : (places : List ℕ) → All (IsFlagOf s.scope) places → OwnFlags places
  own-flags [] h = tt
  own-flags (p ∷ places) h =
      let its = All-head (IsFlagOf s.scope) p places h in
      (s.owns p its.0.0 its.0.1 ∙ its.1, own-flags places (All-tail (IsFlagOf s.scope) p places h))

  pub latches-own : (steps : List StepCells) (all : Actions) → OwnFlags (chart_places steps all) → OwnFlags (latch_places all)
  latches-own [] all h = h
  latches-own (p ∷ steps) all h = latches-own steps all h.1.1

  pub rest-own : (latch : Option ℕ) (associations : List Association) (ss : Statements) (rest : Actions) → OwnFlags (latch_places (action latch associations ss rest)) → OwnFlags (latch_places rest)
  rest-own None associations ss rest h = h
  rest-own (Some place) associations ss rest h = h.1

  steps-own : (steps : List StepCells) (all : Actions) → OwnFlags (chart_places steps all) → (i : ℕ) → i < length steps → OwnFlag (slice_index_or steps i no_step).active × OwnFlag (slice_index_or steps i no_step).before
  steps-own [] all h i low = absurd (omega arith)
  steps-own (p ∷ steps) all h zero low = (h.0, h.1.0)
  steps-own (p ∷ steps) all h (suc i) low = steps-own steps all h.1.1 i (omega arith)

  pub steps-are : (steps : List StepCells) (all : Actions) → OwnFlags (chart_places steps all) → StepsAreTests s.places s.owner s.base steps
  steps-are steps all h i low =
      let its = steps-own steps all h i low in
      (flag-is s.places (s.owner (s.base + (slice_index_or steps i no_step).active)) its.0, flag-is s.places (s.owner (s.base + (slice_index_or steps i no_step).before)) its.1)

  -- the latch of an action, or FALSE
  pub start-is : (latch : Option ℕ) (associations : List Association) (ss : Statements) (rest : Actions) → OwnFlags (latch_places (action latch associations ss rest)) → IsTest s.places (latch_start s.owner s.base latch)
  start-is None associations ss rest h = refl
  start-is (Some place) associations ss rest h = flag-is s.places (s.owner (s.base + place)) h.0
