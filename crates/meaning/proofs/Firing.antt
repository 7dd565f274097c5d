-- The markings that the interpreter keeps say what the definition says by lists of transitions.
use Rattle.std.proofs.Common.{◌≡◌, ℕ, zero, suc, ◌+◌, ◌<◌, ◌≤◌, Bool, true, false, List, [], ◌∷◌, length, refl, sym, ap, ◌∙◌, arith, rules, tests, ℤ, pos}
use Rattle.std.specs.Prelude.{◌==◌, ◌&&◌, ◌||◌, not, filter, slice_set, nat_lt}
use Rattle.std.specs.List.{list_any, list_all}
use Rattle.std.proofs.lemmas.Bool.Decides.{nat_tests}
use Rattle.std.proofs.Math.Bool.{or-false, or_assoc}
use Rattle.program_tree.specs.plc_types.declared.range.Range.{Range}
use Rattle.program_tree.specs.declared.typed.StepCells.{StepCells}
use Rattle.program_tree.specs.declared.typed.TypedAction.{TypedAction}
use Rattle.program_tree.specs.declared.typed.TypedTransition.{TypedTransition}
use Rattle.program_tree.specs.Tree.{TransitionData, Actions, chart}
use Rattle.program_tree.specs.View.{actions_view, transitions_view}
use Rattle.meaning.specs.Values.{State, Callees}
use Rattle.meaning.specs.Charts.{Marking, is_on, marking_now, marking_before, is_among, is_exited, is_entered, may_fire, evaluated, fired, holds_in, faults_in, is_next}
use Rattle.meaning.specs.Effects.{with_fault, all_latched, marked, on, effect_of_transitions, effect_of_actions, effect_of}
use Rattle.meaning.specs.Flags.{no_steps, with_steps, may_leave, exited_after, entered_after, fault_after, is_next_from}
use Rattle.meaning.proofs.Cases.{by_test, or-swap}
use Rattle.meaning.proofs.Loops.{length-set}

-- ---- markings

on-outside : (x : List ℤ) (i : ℕ) → length x ≤ i → is_on x i ≡ false
on-outside [] i h = refl
on-outside (a ∷ x) zero h = absurd (omega (arith, h))
on-outside (a ∷ x) (suc i) h = on-outside x i (omega (arith, h))

eq-suc : (i j : ℕ) → (suc i == suc j) ≡ (i == j)
eq-suc i j = by_test (i == j)
    (λ e. let s : i ≡ j = search (rules, tests) in let r : (suc i == suc j) ≡ true = search (rules, tests) in r ∙ sym e)
    (λ e. let s : (i ≡ j) → ⊥ = search (rules, tests) in let r : (suc i == suc j) ≡ false = grind (arith, nat_tests) in r ∙ sym e)

on-set : (m : List ℤ) (j i : ℕ) → i < length m → is_on (slice_set m j (pos 1)) i ≡ ((i == j) || is_on m i)
on-set [] j i h = absurd (omega (arith, h))
on-set (a ∷ m) zero zero h = refl
on-set (a ∷ m) zero (suc i) h = let e : (suc i == 0) ≡ false = search (rules, tests) in rw e refl
on-set (a ∷ m) (suc j) zero h = let e : (0 == suc j) ≡ false = search (rules, tests) in rw e refl
on-set (a ∷ m) (suc j) (suc i) h = let e = eq-suc i j in rw e (on-set m j i (omega (arith, h)))

pub length-with : (is : List ℕ) (m : List ℤ) → length (with_steps is m) ≡ length m
length-with [] m = refl
length-with (j ∷ is) m = length-with is (slice_set m j (pos 1)) ∙ length-set m j (pos 1)

on-with : (is : List ℕ) (m : List ℤ) (i : ℕ) → i < length m → is_on (with_steps is m) i ≡ (is_among i is || is_on m i)
on-with [] m i h = refl
on-with (j ∷ is) m i h =
    let l = length-set m j (pos 1) in
    on-with is (slice_set m j (pos 1)) i (omega (arith, h, l)) ∙ ap (λ b. is_among i is || b) (on-set m j i h) ∙ or-swap (is_among i is) (i == j) (is_on m i)

pub on-none : (m : List ℤ) (i : ℕ) → is_on (no_steps m) i ≡ false
on-none [] i = refl
on-none (a ∷ m) zero = refl
on-none (a ∷ m) (suc i) = on-none m i

pub length-none : (m : List ℤ) → length (no_steps m) ≡ length m
length-none [] = refl
length-none (a ∷ m) = ap suc (length-none m)

-- ---- transitions

-- a marking says which steps these transitions left
abbrev Same : List ℤ → List TransitionData → Type 0
Same exited acc = (i : ℕ) → i < length exited → is_on exited i ≡ is_exited acc i

may-same : (x exited : List ℤ) (acc : List TransitionData) → length x ≡ length exited → Same exited acc → (is : List ℕ) → may_leave x exited is ≡ list_all (λ i. is_on x i && not (is_exited acc i)) is
may-same x exited acc len same [] = refl
may-same x exited acc len same (i ∷ is) =
    let one : (is_on x i && not (is_on exited i)) ≡ (is_on x i && not (is_exited acc i)) =
    by_test (nat_lt i (length exited))
    (λ e. let h : i < length exited = grind (arith, nat_tests) in ap (λ b. is_on x i && not b) (same i h))
    (λ e. let h : length x ≤ i = grind (arith, nat_tests) in let o = on-outside x i h in rw o refl) in
    let rest = may-same x exited acc len same is in
    rw (one, rest) refl

Same-with : (exited : List ℤ) (acc : List TransitionData) (t : TransitionData) → Same exited acc → Same (with_steps t.from exited) (t ∷ acc)
Same-with exited acc t same i h =
    let l = length-with t.from exited in
    let h' : i < length exited = omega (arith, h, l) in
    on-with t.from exited i h' ∙ ap (λ b. is_among i t.from || b) (same i h')

module _ (x : List ℤ) (holds bad : TransitionData → Bool) where
  pub fault-same : (ts acc : List TransitionData) (exited : List ℤ) (f : Bool) → length x ≡ length exited → Same exited acc → fault_after x holds bad ts exited f ≡ (f || list_any bad (evaluated x holds acc ts))
  fault-same [] acc exited f len same = sym (or-false f)
  fault-same (t ∷ ts) acc exited f len same =
      let m = may-same x exited acc len same t.from in
      by_test (may_fire x acc t)
      (λ e. by_test (holds t)
      (λ h. rw (m, e, h) (fault-same ts (t ∷ acc) (with_steps t.from exited) (f || bad t) (len ∙ sym (length-with t.from exited)) (Same-with exited acc t same) ∙ or_assoc f (bad t) _))
      (λ h. rw (m, e, h) (fault-same ts acc exited (f || bad t) len same ∙ or_assoc f (bad t) _)))
      (λ e. rw (m, e, or-false f) (fault-same ts acc exited f len same))

  pub exited-same : (ts acc : List TransitionData) (exited : List ℤ) → length x ≡ length exited → Same exited acc → (i : ℕ) → i < length exited → is_on (exited_after x holds ts exited) i ≡ (is_exited acc i || is_exited (filter holds (evaluated x holds acc ts)) i)
  exited-same [] acc exited len same i b = same i b ∙ sym (or-false (is_exited acc i))
  exited-same (t ∷ ts) acc exited len same i b =
      let m = may-same x exited acc len same t.from in
      let l = length-with t.from exited in
      by_test (may_fire x acc t)
      (λ e. by_test (holds t)
      (λ h. rw (m, e, h) (exited-same ts (t ∷ acc) (with_steps t.from exited) (len ∙ sym l) (Same-with exited acc t same) i (omega (arith, b, l)) ∙ sym (or-swap (is_exited acc i) (is_among i t.from) _)))
      (λ h. rw (m, e, h) (exited-same ts acc exited len same i b)))
      (λ e. rw (m, e) (exited-same ts acc exited len same i b))

  pub entered-same : (ts acc : List TransitionData) (exited entered : List ℤ) → length x ≡ length exited → Same exited acc → (i : ℕ) → i < length entered → is_on (entered_after x holds ts exited entered) i ≡ (is_on entered i || is_entered (filter holds (evaluated x holds acc ts)) i)
  entered-same [] acc exited entered len same i b = sym (or-false (is_on entered i))
  entered-same (t ∷ ts) acc exited entered len same i b =
      let m = may-same x exited acc len same t.from in
      let l = length-with t.from exited in
      let k = length-with t.to entered in
      by_test (may_fire x acc t)
      (λ e. by_test (holds t)
      (λ h. rw (m, e, h) (entered-same ts (t ∷ acc) (with_steps t.from exited) (with_steps t.to entered) (len ∙ sym l) (Same-with exited acc t same) i (omega (arith, b, k))
      ∙ ap (λ c. c || is_entered (filter holds (evaluated x holds (t ∷ acc) ts)) i) (on-with t.to entered i b) ∙ sym (or-swap (is_on entered i) (is_among i t.to) _)))
      (λ h. rw (m, e, h) (entered-same ts acc exited entered len same i b)))
      (λ e. rw (m, e) (entered-same ts acc exited entered len same i b))

marked-same : (rs : List Range) (base : ℕ) (x : Marking) (next other : ℕ → Bool) (i : ℕ) (steps : List StepCells) (s : State) → ((k : ℕ) → k < i + length steps → next k ≡ other k) → marked rs base x next i steps s ≡ marked rs base x other i steps s
marked-same rs base x next other i [] s same = refl
marked-same rs base x next other i (p ∷ rest) s same =
    let e = same i (omega arith) in
    rw e (marked-same rs base x next other (i + 1) rest _ (λ k h. same k (omega (arith, h))))

-- the last two parts of a run, by markings
transitions-same : (callees : Callees) (rs : List Range) (base : ℕ) (x : Marking) (steps : List StepCells) (ts : List TransitionData) (s exited entered : State) → length x ≡ length steps → length exited ≡ length steps → length entered ≡ length steps
    → marked rs base x (is_next_from x (exited_after x (holds_in callees base s) ts (no_steps exited)) (entered_after x (holds_in callees base s) ts (no_steps exited) (no_steps entered))) 0 steps
    (with_fault (fault_after x (holds_in callees base s) (faults_in callees base s) ts (no_steps exited) false) s)
    ≡ effect_of_transitions callees rs base x steps ts s
transitions-same callees rs base x steps ts s exited entered lx ll lc =
    let h = holds_in callees base s in
    let b = faults_in callees base s in
    let nl = length-none exited in
    let nc = length-none entered in
    let len : length x ≡ length (no_steps exited) = lx ∙ sym (nl ∙ ll) in
    let none : Same (no_steps exited) [] = λ i _. on-none exited i in
    let f = fault-same x h b ts [] (no_steps exited) false len none in
    rw f (marked-same rs base x _ (is_next x (fired x h ts)) 0 steps _
    (λ i k. let l = exited-same x h b ts [] (no_steps exited) len none i (omega (arith, k, ll, nl)) in
    let e = entered-same x h b ts [] (no_steps exited) (no_steps entered) len none i (omega (arith, k, lc, nc)) in
    let z = on-none entered i in
    rw (l, e, z) refl))

-- the steps of a run of a chart
pub chart-ran : (callees : Callees) (rs : List Range) (base : ℕ) (steps : List StepCells) (actions : Actions) (ts : List TransitionData) (s x l exited0 entered0 z zc exited entered s1 s2 s3 s4 : State) (fault : Bool)
    → length x ≡ length steps → length exited0 ≡ length steps → length entered0 ≡ length steps
    → x ≡ marking_now base steps s → l ≡ marking_before base steps s → z ≡ no_steps exited0 → zc ≡ no_steps entered0
    → s1 ≡ all_latched rs base x actions s → s2 ≡ effect_of_actions callees rs base x l actions s1
    → exited ≡ exited_after x (holds_in callees base s2) ts z → entered ≡ entered_after x (holds_in callees base s2) ts z zc
    → fault ≡ fault_after x (holds_in callees base s2) (faults_in callees base s2) ts z false
    → s3 ≡ with_fault fault s2 → s4 ≡ marked rs base x (is_next_from x exited entered) 0 steps s3 → on s4 ≡ effect_of callees rs base (chart steps actions ts) s
chart-ran callees rs base steps actions ts s x l exited0 entered0 z zc exited entered s1 s2 s3 s4 fault lx ll lc ex elb ez ezc e1 e2 el ec ef e3 e4 =
    let one : s4 ≡ effect_of_transitions callees rs base x steps ts s2 =
    rw (e4, e3, ef, el, ec, ez, ezc) (transitions-same callees rs base x steps ts s2 exited0 entered0 lx ll lc) in
    let two : on (effect_of_transitions callees rs base x steps ts s2) ≡ effect_of callees rs base (chart steps actions ts) s = rw (e2, e1, ex, elb) refl in
    ap on one ∙ two

-- the same chart as data
pub chart-same : (callees : Callees) (rs : List Range) (base : ℕ) (steps given_steps : List StepCells) (actions given_actions : List TypedAction) (ts given_ts : List TypedTransition) (s after : State)
    → given_steps ≡ steps → given_actions ≡ actions → given_ts ≡ ts → on after ≡ effect_of callees rs base (chart given_steps (actions_view given_actions) (transitions_view given_ts)) s
    → on after ≡ effect_of callees rs base (chart steps (actions_view actions) (transitions_view ts)) s
chart-same callees rs base steps given_steps actions given_actions ts given_ts s after es ea et ran =
    ran ∙ ap (λ (p : List StepCells). effect_of callees rs base (chart p (actions_view given_actions) (transitions_view given_ts)) s) es
    ∙ ap (λ (p : List TypedAction). effect_of callees rs base (chart steps (actions_view p) (transitions_view given_ts)) s) ea
    ∙ ap (λ (p : List TypedTransition). effect_of callees rs base (chart steps (actions_view actions) (transitions_view p)) s) et
