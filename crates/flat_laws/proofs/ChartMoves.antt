-- The last two parts of a chart's run: the transitions, and the next marking.
use Rattle.std.proofs.Common.{◌≡◌, ◌≢◌, ℕ, zero, suc, ◌+◌, ◌-◌, ◌*◌, ◌<◌, ◌≤◌, Bool, true, false, not, ◌&&◌, ◌||◌, List, [], ◌∷◌, ◌++◌, length, map, ℤ, pos, refl, sym, ap, subst, ◌∙◌, arith, rules, tests, zero-add, length-append}
use Rattle.std.proofs.lemmas.Bool.{or_right}
use Rattle.std.specs.Prelude.{◌==◌, slice_set, slice_index_or, nat_lt, if◌then◌else◌}
use Rattle.std.specs.List.{list_any}
use Rattle.std.proofs.lemmas.List.{length-set, get_or-set_same, get_or-set_other}
use Rattle.plc_types.specs.declared.range.Range.{Range}
use Rattle.program_tree.specs.declared.typed.StepCells.{StepCells}
use Rattle.plc_types.specs.Types.{in_range}
use Rattle.program_tree.specs.Tree.{Expression, number, cell, unary, chain, call_standard, call_function, Operands, no_operands, operand, Expressions, no_expressions, expression, TransitionData, Actions}
use Rattle.program_tree.specs.declared.scratch.Scratch.{Scratch}
use Rattle.program_tree.specs.ChartPlaces.{AreSteps, AreRisingFrom, chart_places}
use Rattle.meaning.specs.Values.{State, Callees, no_callees, is_truth, number_of, value_of, value_on, values_of, faults, any_faults, one_faults, applied}
use Rattle.meaning.specs.Charts.{Marking, is_on, marking_now, marking_before, evaluated as tried, fired, holds_in, faults_in, is_next}
use Rattle.meaning.specs.Flags.{no_steps, with_steps, may_leave, exited_with, entered_with, exited_after, entered_after, fault_after, is_next_from}
use Rattle.meaning.specs.Effects.{range_at, with_fault, stored, marked, effect_of_transitions}
use Rattle.meaning.proofs.Firing.{on-none, length-none, exited-same, entered-same, fault-same}
use Rattle.meaning.specs.Frames.{FrameData}
use Rattle.scan_model.specs.InRange.{IsInRange}
use Rattle.flat_core.specs.FlatTree.{set, branch, FlatStatements, no_flats}
use Rattle.flat_core.specs.FlatView.{flats_of}
use Rattle.flat_core.specs.FlatScans.{takes, placed, run_of, run_of_all}
use Rattle.flat_form.specs.Owners.{OwnerData}
use Rattle.flat_form.specs.Bodies.{Bodies}
use Rattle.flat_form.specs.Calls.{scratch_in, before, moved}
use Rattle.flat_form.specs.FlatCharts.{no_step, flags_of, exited_flag, entered_flag, clear_flags, ready_test, exited_set, entered_set, fired_list, scratch_of_transitions, condition_list, flat_transition, flat_transitions, mark_before, mark_active, mark_list, scratch_of_moves, flat_moves}
use Rattle.flat_form.specs.WellTyped.{IsTypedValue, AreTypedOperands, AreTypedValues, AreTypedInputs, AreFlags, AreTypedTransitions}
use Rattle.flat_laws.proofs.Shown.{held, Owns, Owns-later, Shows, Shows-scratch, Shows-kept, Ran-scratch, Ran-both, Ran-kept, Done, Done-stored, SameUpTo, Evaluated, Stands}
use Rattle.scan_model.proofs.Keeping.{HoldsFault, fault_added}
use Rattle.flat_laws.proofs.ChartStores.{Done-both, with_fault-both, held-with_fault, stored-other, Done-evaluated, fits_bit, held_bit}
use Rattle.flat_laws.proofs.LabelLemmas.{is_truth-number_of}
use Rattle.flat_laws.proofs.Sequences.{run-append, Stands-front, Stands-back}
use Rattle.flat_laws.proofs.ChartTests.{IsTest, IsTest-cell, IsTest-not, IsTest-and, IsTest-or, IsTest-ready}

-- ---- expressions do not read FAULT

module _ (frames : ℕ → FrameData) (MayCall : ℕ → ℕ → Type 0) (own : List Range) (callees : Callees) (base : ℕ) (y s : State) (agree : (p : ℕ) → 0 < p → held y p ≡ held s p) where
  mutual
    pub value-agree : (e : Expression) → IsTypedValue frames MayCall own base e → value_of callees base e y ≡ value_of callees base e s
    value-agree (number v) t = refl
    value-agree (cell place) t = agree (base + place) t.0
    value-agree (unary o k e) t = rw (value-agree e t) refl
    value-agree (chain e os) t = rw (value-agree e t.0) (value_on-agree (value_of callees base e s) os t.1)
    value-agree (call_standard f k es) t = rw (values-agree es t) refl
    value-agree (call_function f es) t = rw (inputs-agree (frames f) 2 es t.1) refl

    value_on-agree : (v : ℤ) (os : Operands) → AreTypedOperands frames MayCall own base os → value_on callees base v os y ≡ value_on callees base v os s
    value_on-agree v no_operands t = refl
    value_on-agree v (operand o k e os) t = rw (value-agree e t.0) (value_on-agree (applied o k v (value_of callees base e s)) os t.1)

    values-agree : (es : Expressions) → AreTypedValues frames MayCall own base es → values_of callees base es y ≡ values_of callees base es s
    values-agree no_expressions t = refl
    values-agree (expression e es) t = rw (value-agree e t.0, values-agree es t.1) refl

    inputs-agree : (frame : FrameData) (place : ℕ) (es : Expressions) → AreTypedInputs frames MayCall own base frame place es → values_of callees base es y ≡ values_of callees base es s
    inputs-agree frame place no_expressions t = refl
    inputs-agree frame place (expression e es) t = rw (value-agree e t.0, inputs-agree frame (place + 1) es t.2) refl

  mutual
    pub faults-agree : (e : Expression) → IsTypedValue frames MayCall own base e → faults callees base e y ≡ faults callees base e s
    faults-agree (number v) t = refl
    faults-agree (cell place) t = refl
    faults-agree (unary o k e) t = faults-agree e t
    faults-agree (chain e os) t = rw (faults-agree e t.0, any_faults-agree os t.1) refl
    faults-agree (call_standard f k es) t = one_faults-agree es t
    faults-agree (call_function f es) t = rw (input_faults-agree (frames f) 2 es t.1, inputs-agree (frames f) 2 es t.1) refl

    any_faults-agree : (os : Operands) → AreTypedOperands frames MayCall own base os → any_faults callees base os y ≡ any_faults callees base os s
    any_faults-agree no_operands t = refl
    any_faults-agree (operand o k e os) t = rw (faults-agree e t.0, value-agree e t.0, any_faults-agree os t.1) refl

    one_faults-agree : (es : Expressions) → AreTypedValues frames MayCall own base es → one_faults callees base es y ≡ one_faults callees base es s
    one_faults-agree no_expressions t = refl
    one_faults-agree (expression e es) t = rw (faults-agree e t.0, one_faults-agree es t.1) refl

    input_faults-agree : (frame : FrameData) (place : ℕ) (es : Expressions) → AreTypedInputs frames MayCall own base frame place es → one_faults callees base es y ≡ one_faults callees base es s
    input_faults-agree frame place no_expressions t = refl
    input_faults-agree frame place (expression e es) t = rw (faults-agree e t.0, input_faults-agree frame (place + 1) es t.2) refl

-- ---- the flags

pub length-flags : (steps : List StepCells) → length (flags_of steps) ≡ 2 * length steps
length-flags [] = refl
length-flags (p ∷ ps) = let e = length-flags ps in omega arith

pub takes-flags : (steps : List StepCells) (i : ℕ) (v : ℤ) → takes (flags_of steps) i v ≡ true
takes-flags [] i v = refl
takes-flags (p ∷ ps) zero v = refl
takes-flags (p ∷ ps) (suc zero) v = refl
takes-flags (p ∷ ps) (suc (suc i)) v = takes-flags ps i v

-- the flags of m steps, from k on, say which steps were left, and which entered
pub record Flags (m k : ℕ) (exited entered : Marking) (y : State) : Type 0 where
  pub exited_long : length exited ≡ m
  pub entered_long : length entered ≡ m
  pub exited_held : (i : ℕ) → i < m → held y (exited_flag k i) ≡ number_of (is_on exited i)
  pub entered_held : (i : ℕ) → i < m → held y (entered_flag k i) ≡ number_of (is_on entered i)

module _ (m k : ℕ) (exited entered : Marking) (y : State) where
  Flags-kept : (z : State) (j : ℕ) → 0 < k → k + 2 * m ≤ j → SameUpTo j y z → Flags m k exited entered y → Flags m k exited entered z
  Flags-kept z j some room same h = record {
    exited_long = h.exited_long;
    entered_long = h.entered_long;
    exited_held = λ i less. same (exited_flag k i) (omega arith) (omega arith) ∙ h.exited_held i less;
    entered_held = λ i less. same (entered_flag k i) (omega arith) (omega arith) ∙ h.entered_held i less;
  }

  Flags-exited : (j : ℕ) → j < m → k + 2 * m ≤ length y → Flags m k exited entered y → Flags m k (slice_set exited j (pos 1)) entered (slice_set y (exited_flag k j) (pos 1))
  Flags-exited j less room h = record {
    exited_long = length-set exited j (pos 1) ∙ h.exited_long;
    entered_long = h.entered_long;
    exited_held = λ i low. by_test i low (i == j) refl;
    entered_held = λ i low. get_or-set_other y (exited_flag k j) (entered_flag k i) (pos 1) (pos 0) (omega arith) ∙ h.entered_held i low;
  }
    where
      by_test : (i : ℕ) → i < m → (test : Bool) → (i == j) ≡ test → held (slice_set y (exited_flag k j) (pos 1)) (exited_flag k i) ≡ number_of (is_on (slice_set exited j (pos 1)) i)
      by_test i low true e =
          let same : i ≡ j = search (rules, tests) in
          let long = h.exited_long in
          ap (λ (q : ℕ). held (slice_set y (exited_flag k j) (pos 1)) (exited_flag k q)) same ∙ get_or-set_same y (exited_flag k j) (pos 1) (pos 0) (omega arith)
          ∙ sym (ap (λ (v : ℤ). number_of (is_truth v)) (get_or-set_same exited j (pos 1) (pos 0) (omega arith))) ∙ ap (λ (q : ℕ). number_of (is_on (slice_set exited j (pos 1)) q)) (sym same)
      by_test i low false e =
          let other : i ≢ j = λ is_same. let two : (i == j) ≡ true = search (rules, tests) in cc in
          get_or-set_other y (exited_flag k j) (exited_flag k i) (pos 1) (pos 0) (omega arith) ∙ h.exited_held i low
          ∙ sym (ap (λ (v : ℤ). number_of (is_truth v)) (get_or-set_other exited j i (pos 1) (pos 0) other))

  Flags-entered : (j : ℕ) → j < m → k + 2 * m ≤ length y → Flags m k exited entered y → Flags m k exited (slice_set entered j (pos 1)) (slice_set y (entered_flag k j) (pos 1))
  Flags-entered j less room h = record {
    exited_long = h.exited_long;
    entered_long = length-set entered j (pos 1) ∙ h.entered_long;
    exited_held = λ i low. get_or-set_other y (entered_flag k j) (exited_flag k i) (pos 1) (pos 0) (omega arith) ∙ h.exited_held i low;
    entered_held = λ i low. by_test i low (i == j) refl;
  }
    where
      by_test : (i : ℕ) → i < m → (test : Bool) → (i == j) ≡ test → held (slice_set y (entered_flag k j) (pos 1)) (entered_flag k i) ≡ number_of (is_on (slice_set entered j (pos 1)) i)
      by_test i low true e =
          let same : i ≡ j = search (rules, tests) in
          let long = h.entered_long in
          ap (λ (q : ℕ). held (slice_set y (entered_flag k j) (pos 1)) (entered_flag k q)) same ∙ get_or-set_same y (entered_flag k j) (pos 1) (pos 0) (omega arith)
          ∙ sym (ap (λ (v : ℤ). number_of (is_truth v)) (get_or-set_same entered j (pos 1) (pos 0) (omega arith))) ∙ ap (λ (q : ℕ). number_of (is_on (slice_set entered j (pos 1)) q)) (sym same)
      by_test i low false e =
          let other : i ≢ j = λ is_same. let two : (i == j) ≡ true = search (rules, tests) in cc in
          get_or-set_other y (entered_flag k j) (entered_flag k i) (pos 1) (pos 0) (omega arith) ∙ h.entered_held i low
          ∙ sym (ap (λ (v : ℤ). number_of (is_truth v)) (get_or-set_other entered j i (pos 1) (pos 0) other))

-- ---- setting flags

-- a scratch cell that takes each value is set to a number
run_set : (rs : List Range) (cs : List Scratch) (c : ℕ) (v : ℤ) (y : State) → length rs ≤ c → takes cs (c - length rs) v ≡ true → run_of rs cs (set c (number v)) y ≡ slice_set y c v
run_set rs cs c v y h free = let behind : nat_lt c (length rs) ≡ false = search (rules, tests) in rw (behind, free) refl

-- flags that begin at k, of steps that are cleared, are 0, and nothing else is changed
record Cleared (m k : ℕ) (y z : State) : Type 0 where
  long : length z ≡ length y
  kept : SameUpTo k y z
  fault : held z 0 ≡ held y 0
  exited : (i : ℕ) → i < m → held z (exited_flag k i) ≡ pos 0
  entered : (i : ℕ) → i < m → held z (entered_flag k i) ≡ pos 0

module _ (rs : List Range) (cs : List Scratch) where
  clear : (steps : List StepCells) (k : ℕ) (y : State) → 0 < k → length rs ≤ k → k + 2 * length steps ≤ length y → ((c : ℕ) → k ≤ c → c < k + 2 * length steps → (v : ℤ) → takes cs (c - length rs) v ≡ true)
      → Cleared (length steps) k y (run_of_all rs cs (flats_of (clear_flags steps k)) y)
  clear [] k y some low room free = record { long = refl; kept = λ p a b. refl; fault = refl; exited = λ i h. absurd (omega arith); entered = λ i h. absurd (omega arith) }
  clear (p ∷ ps) k y some low room free =
      let one = run_set rs cs k (pos 0) y low (free k (omega arith) (omega arith) (pos 0)) in
      let z = slice_set y k (pos 0) in
      let two = run_set rs cs (k + 1) (pos 0) z (omega arith) (free (k + 1) (omega arith) (omega arith) (pos 0)) in
      let w = slice_set z (k + 1) (pos 0) in
      let lz : length z ≡ length y = length-set y k (pos 0) in
      let lw : length w ≡ length z = length-set z (k + 1) (pos 0) in
      let rest : Cleared (length ps) (k + 2) w (run_of_all rs cs (flats_of (clear_flags ps (k + 2))) w) = clear ps (k + 2) w (omega arith) (omega arith) (omega arith) (λ c a b v. free c (omega arith) (omega arith) v) in
      rw (one, two) (cleared_more (length ps) k y _ some (omega arith) rest)
    where
      cleared_more : (m k : ℕ) (y u : State) → 0 < k → k + 2 ≤ length y → Cleared m (k + 2) (slice_set (slice_set y k (pos 0)) (k + 1) (pos 0)) u → Cleared (suc m) k y u
      cleared_more m k y u some room h = record {
        long = h.long ∙ length-set (slice_set y k (pos 0)) (k + 1) (pos 0) ∙ length-set y k (pos 0);
        kept = λ p a b. h.kept p a (omega arith) ∙ get_or-set_other (slice_set y k (pos 0)) (k + 1) p (pos 0) (pos 0) (omega arith) ∙ get_or-set_other y k p (pos 0) (pos 0) (omega arith);
        fault = h.fault ∙ get_or-set_other (slice_set y k (pos 0)) (k + 1) 0 (pos 0) (pos 0) (omega arith) ∙ get_or-set_other y k 0 (pos 0) (pos 0) (omega arith);
        exited = λ i less. first i less;
        entered = λ i less. second i less;
      }
        where
          first : (i : ℕ) → i < suc m → held u (exited_flag k i) ≡ pos 0
          first zero less =
              let same : exited_flag k 0 ≡ k = omega arith in
              ap (λ (q : ℕ). held u q) same ∙ h.kept k some (omega arith) ∙ get_or-set_other (slice_set y k (pos 0)) (k + 1) k (pos 0) (pos 0) (omega arith) ∙ get_or-set_same y k (pos 0) (pos 0) (omega arith)
          first (suc i) less = let same : exited_flag k (suc i) ≡ exited_flag (k + 2) i = omega arith in ap (λ (q : ℕ). held u q) same ∙ h.exited i (omega arith)

          second : (i : ℕ) → i < suc m → held u (entered_flag k i) ≡ pos 0
          second zero less =
              let same : entered_flag k 0 ≡ k + 1 = omega arith in
              let long = length-set y k (pos 0) in
              ap (λ (q : ℕ). held u q) same ∙ h.kept (k + 1) (omega arith) (omega arith) ∙ get_or-set_same (slice_set y k (pos 0)) (k + 1) (pos 0) (pos 0) (omega arith)
          second (suc i) less = let same : entered_flag k (suc i) ≡ entered_flag (k + 2) i = omega arith in ap (λ (q : ℕ). held u q) same ∙ h.entered i (omega arith)

-- Behind a part of the transitions, which began with the store x: what the store shows, and what the flags say.
record Tried (n m k : ℕ) (place_at : ℕ → ℕ) (f : ℤ) (s : State) (exited entered : Marking) (x y : State) : Type 0 where
  done : Done n k place_at f s x y
  flags : Flags m k exited entered y

module _ (rs : List Range) (cs : List Scratch) (n m k : ℕ) (place_at : ℕ → ℕ) (f : ℤ) (above : (p : ℕ) → 0 < p → p < n → 0 < place_at p) (below : (p : ℕ) → 0 < p → p < n → place_at p < k) (some : 0 < k) (low : length rs ≤ k)
    (free : (c : ℕ) → k ≤ c → c < k + 2 * m → (v : ℤ) → takes cs (c - length rs) v ≡ true) (x : State) (room : k + 2 * m ≤ length x) where
  tried_scratch : (s : State) (exited entered nl nc : Marking) (y : State) (c : ℕ) (v : ℤ) → k ≤ c → Tried n m k place_at f s exited entered x y → Flags m k nl nc (slice_set y c v) → Tried n m k place_at f s nl nc x (slice_set y c v)
  tried_scratch s exited entered nl nc y c v h t flags = record {
    done = record { shown = Shows-scratch n place_at above f k s y c v below some h t.done.shown; ran = Ran-both n k place_at x y (slice_set y c v) t.done.ran (Ran-scratch n k place_at y c v h) };
    flags = flags;
  }

  exits : (is : List ℕ) (s : State) (exited entered : Marking) (y : State) → AreSteps m is → Tried n m k place_at f s exited entered x y
      → Tried n m k place_at f s (with_steps is exited) entered x (run_of_all rs cs (flats_of (map (exited_set k) is)) y)
  exits [] s exited entered y h t = t
  exits (i ∷ is) s exited entered y h t =
      let less = h.0 in
      let long = t.done.ran.long in
      let one = run_set rs cs (exited_flag k i) (pos 1) y (omega arith) (free (exited_flag k i) (omega arith) (omega arith) (pos 1)) in
      rw one (exits is s (slice_set exited i (pos 1)) entered (slice_set y (exited_flag k i) (pos 1)) h.1
      (tried_scratch s exited entered (slice_set exited i (pos 1)) entered y (exited_flag k i) (pos 1) (omega arith) t (Flags-exited m k exited entered y i less (omega arith) t.flags)))

  enters : (is : List ℕ) (s : State) (exited entered : Marking) (y : State) → AreSteps m is → Tried n m k place_at f s exited entered x y
      → Tried n m k place_at f s exited (with_steps is entered) x (run_of_all rs cs (flats_of (map (entered_set k) is)) y)
  enters [] s exited entered y h t = t
  enters (i ∷ is) s exited entered y h t =
      let less = h.0 in
      let long = t.done.ran.long in
      let one = run_set rs cs (entered_flag k i) (pos 1) y (omega arith) (free (entered_flag k i) (omega arith) (omega arith) (pos 1)) in
      rw one (enters is s exited (slice_set entered i (pos 1)) (slice_set y (entered_flag k i) (pos 1)) h.1
      (tried_scratch s exited entered exited (slice_set entered i (pos 1)) y (entered_flag k i) (pos 1) (omega arith) t (Flags-entered m k exited entered y i less (omega arith) t.flags)))

  fires : (from to : List ℕ) (s : State) (exited entered : Marking) (y : State) → AreSteps m from → AreSteps m to → Tried n m k place_at f s exited entered x y
      → Tried n m k place_at f s (with_steps from exited) (with_steps to entered) x (run_of_all rs cs (flats_of (fired_list k from to)) y)
  fires from to s exited entered y a b t =
      rw (run-append rs cs (map (exited_set k) from) (map (entered_set k) to) y) (enters to s (with_steps from exited) entered _ b (exits from s exited entered y a t))

-- ---- the transitions

-- what is told of each expression: behind the statements that its calls become, what is left of it has its value
abbrev pub EachEvaluated : List Range → List Scratch → Bodies → (ℕ → ℕ → Type 0) → Callees → List Range → (ℕ → Bool) → OwnerData → Type 0
EachEvaluated rs cs bodies MayCall callees own tested owner =
    (base : ℕ) (e : Expression) (k : ℕ) (f : ℤ) (s x : State) → IsTypedValue bodies.frame MayCall own base e → Owns rs cs own tested owner k → Shows (length own) owner f s x → IsInRange own s → length rs ≤ k
    → k + length (scratch_in bodies e) ≤ length x → Stands rs cs k (scratch_in bodies e)
    → Evaluated callees base e (moved bodies owner base e k) s k (k + length (scratch_in bodies e)) x (run_of_all rs cs (flats_of (before bodies owner base e k)) x)

-- a branch by a condition's truth, and by a test
branch_run : (rs : List Range) (cs : List Scratch) (e : Expression) (a b : FlatStatements) (y : State) (c : Bool) → is_truth (value_of no_callees 0 e y) ≡ c
    → run_of rs cs (branch e a b) y ≡ (if c then run_of_all rs cs a (with_fault (faults no_callees 0 e y) y) else run_of_all rs cs b (with_fault (faults no_callees 0 e y) y))
branch_run rs cs e a b y c h = rw h refl

pub test_run : (rs : List Range) (cs : List Scratch) (e : Expression) (a b : FlatStatements) (y : State) (c : Bool) → IsTest y e c → run_of rs cs (branch e a b) y ≡ (if c then run_of_all rs cs a y else run_of_all rs cs b y)
test_run rs cs e a b y c t = branch_run rs cs e a b y c (ap is_truth t.value ∙ is_truth-number_of c) ∙ ap (λ (d : Bool). if c then run_of_all rs cs a (with_fault d y) else run_of_all rs cs b (with_fault d y)) t.fault

module _ (rs : List Range) (cs : List Scratch) (bodies : Bodies) (MayCall MayRun : ℕ → ℕ → Type 0) (extents : ℕ → ℕ) (callees : Callees) (own : List Range) (tested : ℕ → Bool) (owner : OwnerData) (base : ℕ)
    (each : EachEvaluated rs cs bodies MayCall callees own tested owner) (first : HoldsFault own) (cells : 0 < length own) (some : 0 < length rs) (k : ℕ) (f : ℤ) (o : Owns rs cs own tested owner k) (low : length rs ≤ k)
    (steps : List StepCells) (free : (c : ℕ) → k ≤ c → c < k + 2 * length steps → (v : ℤ) → takes cs (c - length rs) v ≡ true) (x : State) (room : k + 2 * length steps ≤ length x)
    (s : State) (within : IsInRange own s) (xm : Marking)
    (known : (i : ℕ) → i < length steps → (0 < base + (slice_index_or steps i no_step).active) × (base + (slice_index_or steps i no_step).active < length own) × (held s (base + (slice_index_or steps i no_step).active) ≡ number_of (is_on xm i))) where
  abbrev After : Bool → Marking → Marking → State → Type 0
  After b exited entered y = Tried (length own) (length steps) k owner f (with_fault b s) exited entered x y

  fired_where : (h b : Bool) (from to : List ℕ) (exited entered : Marking) (w : State) → AreSteps (length steps) from → AreSteps (length steps) to → After b exited entered w
      → After b (if h then with_steps from exited else exited) (if h then with_steps to entered else entered) (if h then run_of_all rs cs (flats_of (fired_list k from to)) w else w)
  fired_where true b from to exited entered w p q t = fires rs cs (length own) (length steps) k owner f o.above o.below (omega arith) low free x room from to (with_fault b s) exited entered w p q t
  fired_where false b from to exited entered w p q t = t

  condition : (t : TransitionData) (j : ℕ) (b : Bool) (exited entered : Marking) (y : State) → IsTypedValue bodies.frame MayCall own base t.condition → AreSteps (length steps) t.from → AreSteps (length steps) t.to
      → k + 2 * length steps ≤ j → j + length (scratch_in bodies t.condition) ≤ length x → Stands rs cs j (scratch_in bodies t.condition) → After b exited entered y
      → After (b || faults_in callees base s t) (if holds_in callees base s t then with_steps t.from exited else exited) (if holds_in callees base s t then with_steps t.to entered else entered) (run_of_all rs cs (flats_of (condition_list bodies owner base k t j)) y)
  condition t j b exited entered y typed from to behind fits stands so_far =
      let e = t.condition in
      let here = with_fault b s in
      let rest = moved bodies owner base e j in
      let z = run_of_all rs cs (flats_of (before bodies owner base e j)) y in
      let w = with_fault (faults no_callees 0 rest z) z in
      let long = so_far.done.ran.long in
      let n = length own in
      let is : Evaluated callees base e rest here j (j + length (scratch_in bodies e)) y z =
      each base e j f here y typed (Owns-later rs cs own tested owner k j (omega arith) o) so_far.done.shown (fault_added own first b s within) (omega arith) (omega arith) stands in
      let d = Done-evaluated callees base e rest n k j (j + length (scratch_in bodies e)) owner f here y z o.above o.below (omega arith) cells (omega arith) is so_far.done.shown in
      let agree = λ (p : ℕ) (h : 0 < p). held-with_fault b s p h in
      let same_fault = faults-agree bodies.frame MayCall own callees base here s agree e typed in
      let same_value = value-agree bodies.frame MayCall own callees base here s agree e typed in
      let same_state : with_fault (faults callees base e here) here ≡ with_fault (b || faults_in callees base s t) s = ap (λ (c : Bool). with_fault c here) same_fault ∙ with_fault-both b (faults callees base e s) s in
      let met : Done n k owner f (with_fault (b || faults_in callees base s t) s) y w = subst (λ (q : State). Done n k owner f q y w) same_state d in
      let flags : Flags (length steps) k exited entered w = Flags-kept (length steps) k exited entered y w j (omega arith) behind (λ p a c. held-with_fault (faults no_callees 0 rest z) z p a ∙ is.kept p a c) so_far.flags in
      let there : After (b || faults_in callees base s t) exited entered w = record { done = Done-both n k owner f here (with_fault (b || faults_in callees base s t) s) x y w so_far.done.ran met; flags = flags } in
      let truth : is_truth (value_of no_callees 0 rest z) ≡ holds_in callees base s t = ap is_truth (is.value z (λ p a c. refl) ∙ same_value) in
      let ran = run-append rs cs (before bodies owner base e j) (branch rest (flats_of (fired_list k t.from t.to)) no_flats ∷ []) y ∙ branch_run rs cs rest (flats_of (fired_list k t.from t.to)) no_flats z (holds_in callees base s t) truth in
      subst (λ (q : State). After (b || faults_in callees base s t) (if holds_in callees base s t then with_steps t.from exited else exited) (if holds_in callees base s t then with_steps t.to entered else entered) q) (sym ran)
      (fired_where (holds_in callees base s t) (b || faults_in callees base s t) t.from t.to exited entered w from to there)

  gate : (may h bad b : Bool) (from to : List ℕ) (exited entered : Marking) (y z : State) → After b exited entered y → After (b || bad) (if h then with_steps from exited else exited) (if h then with_steps to entered else entered) z
      → After (b || (may && bad)) (if may && h then with_steps from exited else exited) (if may && h then with_steps to entered else entered) (if may then z else y)
  gate true h bad b from to exited entered y z p q = q
  gate false h bad true from to exited entered y z p q = p
  gate false h bad false from to exited entered y z p q = p

  transition : (t : TransitionData) (j : ℕ) (b : Bool) (exited entered : Marking) (y : State) → IsTypedValue bodies.frame MayCall own base t.condition → AreSteps (length steps) t.from → AreSteps (length steps) t.to
      → k + 2 * length steps ≤ j → j + length (scratch_in bodies t.condition) ≤ length x → Stands rs cs j (scratch_in bodies t.condition) → After b exited entered y
      → After (b || (may_leave xm exited t.from && faults_in callees base s t)) (exited_with xm (holds_in callees base s) t exited) (entered_with xm (holds_in callees base s) t exited entered) (run_of rs cs (flat_transition bodies owner base steps k t j) y)
  transition t j b exited entered y typed from to behind fits stands so_far =
      let here = λ (i : ℕ) (h : i < length steps). let g = known i h in
      IsTest-cell y (owner (base + (slice_index_or steps i no_step).active)) (is_on xm i) (so_far.done.shown.cells (base + (slice_index_or steps i no_step).active) g.0 g.1 ∙ held-with_fault b s (base + (slice_index_or steps i no_step).active) g.0 ∙ g.2) in
      let test = IsTest-ready owner base steps y xm here k exited so_far.flags.exited_held t.from from in
      let ran = test_run rs cs (ready_test owner base steps k t.from) (flats_of (condition_list bodies owner base k t j)) no_flats y (may_leave xm exited t.from) test in
      subst (λ (q : State). After (b || (may_leave xm exited t.from && faults_in callees base s t)) (exited_with xm (holds_in callees base s) t exited) (entered_with xm (holds_in callees base s) t exited entered) q) (sym ran)
      (gate (may_leave xm exited t.from) (holds_in callees base s t) (faults_in callees base s t) b t.from t.to exited entered y _ so_far (condition t j b exited entered y typed from to behind fits stands so_far))

  transitions : (ts : List TransitionData) (j : ℕ) (b : Bool) (exited entered : Marking) (y : State) → AreTypedTransitions bodies.frame MayCall MayRun extents own tested base (length steps) ts
      → k + 2 * length steps ≤ j → j + length (scratch_of_transitions bodies ts) ≤ length x → Stands rs cs j (scratch_of_transitions bodies ts) → After b exited entered y
      → After (fault_after xm (holds_in callees base s) (faults_in callees base s) ts exited b) (exited_after xm (holds_in callees base s) ts exited) (entered_after xm (holds_in callees base s) ts exited entered) (run_of_all rs cs (flats_of (flat_transitions bodies owner base steps k ts j)) y)
  transitions [] j b exited entered y typed behind fits stands so_far = so_far
  transitions (t ∷ ts) j b exited entered y typed behind fits stands so_far =
      let parts = length-append (scratch_in bodies t.condition) (scratch_of_transitions bodies ts) in
      let one = transition t j b exited entered y typed.0 typed.1 typed.2 behind (omega arith) (Stands-front rs cs j (scratch_in bodies t.condition) (scratch_of_transitions bodies ts) stands) so_far in
      transitions ts (j + length (scratch_in bodies t.condition)) (b || (may_leave xm exited t.from && faults_in callees base s t)) (exited_with xm (holds_in callees base s) t exited) (entered_with xm (holds_in callees base s) t exited entered) _ typed.3
      (omega arith) (omega arith) (Stands-back rs cs j (scratch_in bodies t.condition) (scratch_of_transitions bodies ts) stands) one

-- ---- the next marking

-- an assignment to an owner's cell changes no other place but FAULT's
pub placed-other : (rs : List Range) (cs : List Scratch) (own : List Range) (tested : ℕ → Bool) (place_at : ℕ → ℕ) (k : ℕ) → Owns rs cs own tested place_at k → (c : ℕ) (v : ℤ) (y : State) → 0 < c → c < length own
    → (q : ℕ) → 0 < q → q ≢ place_at c → held (placed rs cs (place_at c) v y) q ≡ held y q
placed-other rs cs own tested place_at k o c v y low high q some other = rw (o.puts c v y low high) (by_test (not (tested c) || in_range v (range_at own c)))
  where
    by_test : (t : Bool) → held (if t then slice_set y (place_at c) v else slice_set y 0 (pos 1)) q ≡ held y q
    by_test true = get_or-set_other y (place_at c) q v (pos 0) other
    by_test false = get_or-set_other y 0 q (pos 1) (pos 0) (omega arith)

-- a cell is set by a test
pub run_test : (rs : List Range) (cs : List Scratch) (c : ℕ) (e : Expression) (y : State) (b : Bool) → IsTest y e b → run_of rs cs (set c e) y ≡ placed rs cs c (number_of b) y
run_test rs cs c e y b t = ap (λ (v : ℤ). placed rs cs c v (with_fault (faults no_callees 0 e y) y)) t.value ∙ ap (λ (d : Bool). placed rs cs c (number_of b) (with_fault d y)) t.fault

-- the cells of these steps say what a marking says from a number on
abbrev Holding : ℕ → Marking → ℕ → List StepCells → State → Type 0
Holding base xm i [] s = Unit {0}
Holding base xm i (p ∷ ps) s = (held s (base + p.active) ≡ number_of (is_on xm i)) × Holding base xm (i + 1) ps s

module _ (own : List Range) (base : ℕ) (xm : Marking) (actions : Actions) where
  Holding-kept : (ps : List StepCells) (i bound : ℕ) (s z : State) → AreFlags own base (chart_places ps actions) → AreRisingFrom bound (chart_places ps actions)
      → ((c : ℕ) → bound ≤ c → 0 < base + c → held z (base + c) ≡ held s (base + c)) → Holding base xm i ps s → Holding base xm i ps z
  Holding-kept [] i bound s z fl rising same h = tt
  Holding-kept (p ∷ ps) i bound s z fl rising same h =
      let a = rising.0 in
      let b = rising.1.0 in
      (same p.active rising.0 fl.0.0 ∙ h.0, Holding-kept ps (i + 1) (p.before + 1) s z fl.3.3 rising.1.1 (λ c u v. same c (omega arith) v) h.1)

module _ (rs : List Range) (cs : List Scratch) (own : List Range) (tested : ℕ → Bool) (owner : OwnerData) (base k : ℕ) (f : ℤ) (o : Owns rs cs own tested owner k) (some : 0 < k) (m : ℕ) (xm exited entered : Marking) (next_on : ℕ → Bool) (actions : Actions)
    (bits : (i : ℕ) → i < m → held xm i ≡ number_of (is_on xm i)) (same_next : (i : ℕ) → i < m → is_next_from xm exited entered i ≡ next_on i) where
  -- the flags are no cells of the owner
  Flags-placed : (c : ℕ) (v : ℤ) (y : State) → 0 < c → c < length own → Flags m k exited entered y → Flags m k exited entered (placed rs cs (owner c) v y)
  Flags-placed c v y low high h = let below = o.below c low high in record {
    exited_long = h.exited_long;
    entered_long = h.entered_long;
    exited_held = λ i less. placed-other rs cs own tested owner k o c v y low high (exited_flag k i) (omega arith) (omega arith) ∙ h.exited_held i less;
    entered_held = λ i less. placed-other rs cs own tested owner k o c v y low high (entered_flag k i) (omega arith) (omega arith) ∙ h.entered_held i less;
  }

  marks : (ps : List StepCells) (i q bound : ℕ) (s x y : State) → q ≡ k + 2 * i → i + length ps ≤ m → AreFlags own base (chart_places ps actions) → AreRisingFrom bound (chart_places ps actions) → Holding base xm i ps s → k ≤ length y
      → Flags m k exited entered y → Done (length own) k owner f s x y → Done (length own) k owner f (marked own base xm next_on i ps s) x (run_of_all rs cs (flats_of (mark_list owner base ps q)) y)
  marks [] i q bound s x y is_q many fl rising holding room flags done = done
  marks (p ∷ ps) i q bound s x y is_q many fl rising holding room flags done =
      let n = length own in
      let here : i < m = omega arith in
      let order = rising.1.0 in
      let active_low = fl.0.0 in
      let before_low = fl.3.0.0 in
      let a = base + p.active in
      let b = base + p.before in
      let v = held xm i in
      let w = number_of (next_on i) in
      let s1 = stored own b v s in
      let s2 = stored own a w s1 in
      let y1 = placed rs cs (owner b) v y in
      let y2 = placed rs cs (owner a) w y1 in
      let value : value_of no_callees 0 (cell (owner a)) y ≡ v = ap (λ (c : ℕ). held y c) (zero-add (owner a)) ∙ done.shown.cells a fl.0.0 fl.0.1 ∙ holding.0 ∙ sym (bits i here) in
      let one : run_of rs cs (mark_before owner base p) y ≡ y1 = ap (λ (u : ℤ). placed rs cs (owner b) u y) value in
      let fits_one : (tested b || in_range v (range_at own b)) ≡ true = or_right (tested b) _ (ap (λ (u : ℤ). in_range u (range_at own b)) (bits i here) ∙ fits_bit (is_on xm i) (range_at own b) fl.3.1 fl.3.2) in
      let done_one : Done n k owner f s1 y y1 = Done-stored rs cs own tested owner k f b v s y o fl.3.0.0 fl.3.0.1 room fits_one done.shown in
      let flags_one = Flags-placed b v y fl.3.0.0 fl.3.0.1 flags in
      let long_one = done_one.ran.long in
      let now : held y1 (owner a) ≡ number_of (is_on xm i) = done_one.shown.cells a fl.0.0 fl.0.1 ∙ stored-other own b v s a fl.0.0 (omega arith) ∙ holding.0 in
      let exited_here : held y1 q ≡ number_of (is_on exited i) = ap (λ (c : ℕ). held y1 c) is_q ∙ flags_one.exited_held i here in
      let is_come : q + 1 ≡ entered_flag k i = omega arith in
      let entered_here : held y1 (q + 1) ≡ number_of (is_on entered i) = ap (λ (c : ℕ). held y1 c) is_come ∙ flags_one.entered_held i here in
      let test = IsTest-or y1 _ (cell (q + 1)) (is_on xm i && not (is_on exited i)) (is_on entered i)
      (IsTest-and y1 (cell (owner a)) _ (is_on xm i) (not (is_on exited i)) (IsTest-cell y1 (owner a) (is_on xm i) now) (IsTest-not y1 (cell q) (is_on exited i) (IsTest-cell y1 q (is_on exited i) exited_here)))
      (IsTest-cell y1 (q + 1) (is_on entered i) entered_here) in
      let two : run_of rs cs (mark_active owner base p q) y1 ≡ y2 = run_test rs cs (owner a) _ y1 _ test ∙ ap (λ (u : Bool). placed rs cs (owner a) (number_of u) y1) (same_next i here) in
      let fits_two : (tested a || in_range w (range_at own a)) ≡ true = or_right (tested a) _ (fits_bit (next_on i) (range_at own a) fl.1 fl.2) in
      let done_two : Done n k owner f s2 y1 y2 = Done-stored rs cs own tested owner k f a w s1 y1 o fl.0.0 fl.0.1 (omega arith) fits_two done_one.shown in
      let flags_two = Flags-placed a w y1 fl.0.0 fl.0.1 flags_one in
      let long_two = done_two.ran.long in
      let both_done : Done n k owner f s2 x y2 = Done-both n k owner f s s2 x y y2 done.ran (Done-both n k owner f s1 s2 y y1 y2 done_one.ran done_two) in
      let held_later : Holding base xm (i + 1) ps s2 = Holding-kept own base xm actions ps (i + 1) (p.before + 1) s s2 fl.3.3 rising.1.1
      (λ c u z. stored-other own a w s1 (base + c) z (omega arith) ∙ stored-other own b v s (base + c) z (omega arith)) holding.1 in
      let rest = marks ps (i + 1) (q + 2) (p.before + 1) s2 x y2 (omega arith) (omega arith) fl.3.3 rising.1.1 held_later (omega arith) flags_two both_done in
      let ran : run_of_all rs cs (flats_of (mark_list owner base (p ∷ ps) q)) y ≡ run_of_all rs cs (flats_of (mark_list owner base ps (q + 2))) y2 =
      ap (λ (u : State). run_of_all rs cs (flats_of (mark_list owner base ps (q + 2))) (run_of rs cs (mark_active owner base p q) u)) one ∙ ap (λ (u : State). run_of_all rs cs (flats_of (mark_list owner base ps (q + 2))) u) two in
      subst (λ (u : State). Done n k owner f (marked own base xm next_on (i + 1) ps s2) x u) (sym ran) rest

-- ---- markings in a state

pub length-now : (base : ℕ) (s : State) (steps : List StepCells) → length (marking_now base steps s) ≡ length steps
length-now base s [] = refl
length-now base s (p ∷ ps) = ap suc (length-now base s ps)

pub now-at : (base : ℕ) (s : State) (steps : List StepCells) (i : ℕ) → i < length steps → held s (base + (slice_index_or steps i no_step).active) ≡ held (marking_now base steps s) i
now-at base s [] i h = absurd (omega arith)
now-at base s (p ∷ ps) zero h = refl
now-at base s (p ∷ ps) (suc i) h = now-at base s ps i (omega arith)

pub was-at : (base : ℕ) (s : State) (steps : List StepCells) (i : ℕ) → i < length steps → held s (base + (slice_index_or steps i no_step).before) ≡ held (marking_before base steps s) i
was-at base s [] i h = absurd (omega arith)
was-at base s (p ∷ ps) zero h = refl
was-at base s (p ∷ ps) (suc i) h = was-at base s ps i (omega arith)

-- the cells of a step are cells of the owner of type BOOL
pub record IsFlag (own : List Range) (place : ℕ) : Type 0 where
  pub above : 0 < place
  pub below : place < length own
  pub least : (range_at own place).low ≡ pos 0
  pub most : (range_at own place).high ≡ pos 1

pub active_flag : (own : List Range) (base : ℕ) (acts : Actions) (steps : List StepCells) (i : ℕ) → AreFlags own base (chart_places steps acts) → i < length steps → IsFlag own (base + (slice_index_or steps i no_step).active)
active_flag own base acts [] i fl h = absurd (omega arith)
active_flag own base acts (p ∷ ps) zero fl h = record { above = fl.0.0; below = fl.0.1; least = fl.1; most = fl.2 }
active_flag own base acts (p ∷ ps) (suc i) fl h = active_flag own base acts ps i fl.3.3 (omega arith)

pub before_flag : (own : List Range) (base : ℕ) (acts : Actions) (steps : List StepCells) (i : ℕ) → AreFlags own base (chart_places steps acts) → i < length steps → IsFlag own (base + (slice_index_or steps i no_step).before)
before_flag own base acts [] i fl h = absurd (omega arith)
before_flag own base acts (p ∷ ps) zero fl h = record { above = fl.3.0.0; below = fl.3.0.1; least = fl.3.1; most = fl.3.2 }
before_flag own base acts (p ∷ ps) (suc i) fl h = before_flag own base acts ps i fl.3.3 (omega arith)

-- a number that is that of a truth value is that of its own
pub flag_value : (own : List Range) (s : State) (place : ℕ) (xm : Marking) (i : ℕ) → IsInRange own s → IsFlag own place → held s place ≡ held xm i → held s place ≡ number_of (is_on xm i)
flag_value own s place xm i within is e = held_bit own s place within is.below is.least is.most ∙ ap (λ (v : ℤ). number_of (is_truth v)) e

-- ---- both parts

module _ (own : List Range) (base : ℕ) (xm : Marking) (s : State) (actions : Actions) where
  Holding-now : (ps : List StepCells) (i : ℕ) → AreFlags own base (chart_places ps actions) → ((j : ℕ) → j < length ps → held s (base + (slice_index_or ps j no_step).active) ≡ number_of (is_on xm (i + j))) → Holding base xm i ps s
  Holding-now [] i fl known = tt
  Holding-now (p ∷ ps) i fl known =
      let here : i + 0 ≡ i = omega arith in (
        known 0 (omega arith) ∙ ap (λ (q : ℕ). number_of (is_on xm q)) here,
        Holding-now ps (i + 1) fl.3.3 (λ j h. let there : i + suc j ≡ i + 1 + j = omega arith in known (suc j) (omega arith) ∙ ap (λ (q : ℕ). number_of (is_on xm q)) there),
      )

module _ (x : Marking) (holds faulty : TransitionData → Bool) (ts : List TransitionData) where
  moved_on : (i : ℕ) → i < length x → is_next_from x (exited_after x holds ts (no_steps x)) (entered_after x holds ts (no_steps x) (no_steps x)) i ≡ is_next x (fired x holds ts) i
  moved_on i h =
      let n = length-none x in
      let none = λ (j : ℕ) (g : j < length (no_steps x)). on-none x j in
      let l = exited-same x holds faulty ts [] (no_steps x) (sym n) none i (omega arith) in
      let e = entered-same x holds faulty ts [] (no_steps x) (no_steps x) (sym n) none i (omega arith) in
      let z = on-none x i in
      rw (l, e, z) refl

  met_faults : fault_after x holds faulty ts (no_steps x) false ≡ list_any faulty (tried x holds [] ts)
  met_faults = fault-same x holds faulty ts [] (no_steps x) false (sym (length-none x)) (λ j g. on-none x j)

module _ (rs : List Range) (cs : List Scratch) (bodies : Bodies) (MayCall MayRun : ℕ → ℕ → Type 0) (extents : ℕ → ℕ) (callees : Callees) (own : List Range) (tested : ℕ → Bool) (owner : OwnerData) (base : ℕ)
    (each : EachEvaluated rs cs bodies MayCall callees own tested owner) (first : HoldsFault own) (cells : 0 < length own) (some : 0 < length rs) where
  pub done_moves : (steps : List StepCells) (actions : Actions) (ts : List TransitionData) (bound k : ℕ) (f : ℤ) (s x : State) (xm : Marking) → AreFlags own base (chart_places steps actions) → AreRisingFrom bound (chart_places steps actions)
      → AreTypedTransitions bodies.frame MayCall MayRun extents own tested base (length steps) ts → marking_now base steps s ≡ xm → Owns rs cs own tested owner k → Shows (length own) owner f s x → IsInRange own s → length rs ≤ k
      → k + length (scratch_of_moves bodies steps ts) ≤ length x → Stands rs cs k (scratch_of_moves bodies steps ts)
      → Done (length own) k owner f (effect_of_transitions callees own base xm steps ts s) x (run_of_all rs cs (flats_of (flat_moves bodies owner base steps ts k)) x)
  done_moves steps actions ts bound k f s x xm fl rising typed marking o shown within low fits stands =
      let n = length own in
      let m = length steps in
      let holds = holds_in callees base s in
      let faulty = faults_in callees base s in
      let none = no_steps xm in
      let two_each = length-flags steps in
      let parts = length-append (flags_of steps) (scratch_of_transitions bodies ts) in
      let long_now = length-now base s steps in
      let long : length xm ≡ m = ap length (sym marking) ∙ long_now in
      let long_none : length none ≡ m = length-none xm ∙ long in
      let front = Stands-front rs cs k (flags_of steps) (scratch_of_transitions bodies ts) stands in
      let free = λ (c : ℕ) (h : k ≤ c) (g : c < k + 2 * length steps) (v : ℤ). let there : c - length rs ≡ k + (c - k) - length rs = omega arith in
      ap (λ (q : ℕ). takes cs q v) there ∙ front (c - k) v (omega arith) ∙ takes-flags steps (c - k) v in
      let known : (i : ℕ) → i < length steps → (0 < base + (slice_index_or steps i no_step).active) × (base + (slice_index_or steps i no_step).active < length own) × (held s (base + (slice_index_or steps i no_step).active) ≡ number_of (is_on xm i)) =
      λ i h. let flag = active_flag own base actions steps i fl h in
      (flag.above, flag.below, flag_value own s (base + (slice_index_or steps i no_step).active) xm i within flag (now-at base s steps i h ∙ ap (λ (q : Marking). held q i) marking)) in
      let y0 = run_of_all rs cs (flats_of (clear_flags steps k)) x in
      let cl : Cleared m k x y0 = clear rs cs steps k x (omega arith) low (omega arith) free in
      let start : Done n k owner f s x y0 = record { shown = Shows-kept n owner o.above f k s x y0 o.below cl.kept cl.fault shown; ran = Ran-kept n k owner x y0 cl.long cl.kept } in
      let flags : Flags m k none none y0 = record {
        exited_long = long_none;
        entered_long = long_none;
        exited_held = λ i h. cl.exited i h ∙ sym (ap number_of (on-none xm i));
        entered_held = λ i h. cl.entered i h ∙ sym (ap number_of (on-none xm i));
      } in
      let begun : Tried n m k owner f (with_fault false s) none none x y0 = record { done = start; flags = flags } in
      let j = k + length (flags_of steps) in
      let exited = exited_after xm holds ts none in
      let entered = entered_after xm holds ts none none in
      let fault = fault_after xm holds faulty ts none false in
      let y1 = run_of_all rs cs (flats_of (flat_transitions bodies owner base steps k ts j)) y0 in
      let behind : Tried n m k owner f (with_fault fault s) exited entered x y1 =
      transitions rs cs bodies MayCall MayRun extents callees own tested owner base each first cells some k f o low steps free x (omega arith) s within xm known ts j false none none y0 typed (omega arith) (omega arith)
      (Stands-back rs cs k (flags_of steps) (scratch_of_transitions bodies ts) stands) begun in
      let bits : (i : ℕ) → i < m → held xm i ≡ number_of (is_on xm i) =
      λ i h. let g = known i h in sym (now-at base s steps i h ∙ ap (λ (q : Marking). held q i) marking) ∙ g.2 in
      let next_same : (i : ℕ) → i < m → is_next_from xm exited entered i ≡ is_next xm (fired xm holds ts) i = λ i h. moved_on xm holds faulty ts i (omega arith) in
      let holding : Holding base xm 0 steps (with_fault fault s) =
      Holding-now own base xm (with_fault fault s) actions steps 0 fl (λ i h. let g = known i h in held-with_fault fault s (base + (slice_index_or steps i no_step).active) g.0 ∙ g.2 ∙ ap (λ (q : ℕ). number_of (is_on xm q)) (sym (zero-add i))) in
      let long_behind = behind.done.ran.long in
      let last = marks rs cs own tested owner base k f o (omega arith) m xm exited entered (is_next xm (fired xm holds ts)) actions bits next_same steps 0 k bound (with_fault fault s) x y1 (omega arith) (omega arith) fl rising holding (omega arith) behind.flags behind.done in
      let met : marked own base xm (is_next xm (fired xm holds ts)) 0 steps (with_fault fault s) ≡ effect_of_transitions callees own base xm steps ts s =
      ap (λ (b : Bool). marked own base xm (is_next xm (fired xm holds ts)) 0 steps (with_fault b s)) (met_faults xm holds faulty ts) in
      let rest = flat_transitions bodies owner base steps k ts j ++ mark_list owner base steps k in
      let ran : run_of_all rs cs (flats_of (flat_moves bodies owner base steps ts k)) x ≡ run_of_all rs cs (flats_of (mark_list owner base steps k)) y1 =
      run-append rs cs (clear_flags steps k) rest x ∙ run-append rs cs (flat_transitions bodies owner base steps k ts j) (mark_list owner base steps k) y0 in
      subst (λ (q : State). Done n k owner f q x (run_of_all rs cs (flats_of (flat_moves bodies owner base steps ts k)) x)) met
      (subst (λ (q : State). Done n k owner f (marked own base xm (is_next xm (fired xm holds ts)) 0 steps (with_fault fault s)) x q) (sym ran) last)
