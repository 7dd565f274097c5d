-- Where two sets of POUs do the same for each number that expressions and statements use, these have the same values, faults and effects.
use Rattle.std.proofs.Common.{◌≡◌, ℕ, zero, suc, ◌+◌, Bool, true, false, ◌||◌, List, [], ◌∷◌, ◌++◌, ℤ, ◌+ℤ◌, Option, Some, None, ◌⊎◌, inl, inr, ⊎_elim, refl, ap, ap₂, subst, ◌∙◌}
use Rattle.std.specs.Prelude.{◌==◌, filter, if◌then◌else◌}
use Rattle.std.specs.List.{list_any}
use Rattle.std.proofs.lemmas.Bool.{eqb-true}
use Rattle.plc_types.specs.declared.range.Range.{Range}
use Rattle.program_tree.specs.declared.typed.StepCells.{StepCells}
use Rattle.program_tree.specs.declared.typed.Association.{Association}
use Rattle.program_tree.specs.Tree.{Expression, number, cell, unary, chain, call_standard, call_function, Operands, no_operands, operand, Expressions, no_expressions, expression, TransitionData, Statement, assign, call_block, choice, cases, repeat, chart, exit, return, own_body, Statements, no_statements, statement, Choices, no_choices, choose, Entries, no_entries, entry, Actions, no_actions, action}
use Rattle.call_order.specs.Uses.{is_among}
use Rattle.call_order.proofs.Members.{is_among-left, is_among-right, is_among-head, is_among-tail}
use Rattle.meaning.specs.Values.{State, Callees, is_truth, unary_applied, applied, divides_by_zero, called, fault_in, answer_in, value_of, value_on, values_of, faults, any_faults, one_faults}
use Rattle.meaning.specs.Charts.{Marking, marking_now, marking_before, runs, may_fire, evaluated, fired, holds_in, faults_in, is_next}
use Rattle.meaning.specs.Effects.{Effect, on, exited, returned, state_of, followed_by, behind_turn, behind_body, with_fault, stored, is_labelled, effect_of_turns, all_latched, marked, effect_of_transitions, effect_of, effect_of_all, effect_of_choices, effect_of_entries, effect_of_actions}
use Rattle.meaning.proofs.Cases.{by_test}
use Rattle.running_pous.specs.Uses.{uses_in, uses_in_operands, uses_in_all, uses_of_transitions, uses_of, uses_of_all, uses_of_choices, uses_of_entries, uses_of_action, uses_of_actions}

-- the POU of a number does the same in both
abbrev pub DoSame : Callees → Callees → ℕ → Type 0
DoSame a b n = ((rs : List Range) (base : ℕ) (s : State) → a.runs n rs base s ≡ b.runs n rs base s) × ((vs : List ℤ) → a.ends n vs ≡ b.ends n vs)

-- and so do the POUs of some numbers
abbrev pub DoSameFor : Callees → Callees → List ℕ → Type 0
DoSameFor a b us = (u : ℕ) → is_among u us ≡ true → DoSame a b u

-- ---- cases of a test, and tests that agree

branches : {A : Type 0} (b : Bool) (x u y v : A) → x ≡ u → y ≡ v → (if b then x else y) ≡ (if b then u else v)
branches true x u y v one other = one
branches false x u y v one other = other

if-same : {A : Type 0} (b c : Bool) (x u y v : A) → b ≡ c → x ≡ u → y ≡ v → (if b then x else y) ≡ (if c then u else v)
if-same b c x u y v test one other = ap (λ (d : Bool). if d then x else y) test ∙ branches c x u y v one other

-- two tests agree at each of some transitions
abbrev AreAlike : (TransitionData → Bool) → (TransitionData → Bool) → List TransitionData → Type 0
AreAlike p q [] = Unit {0}
AreAlike p q (t ∷ ts) = (p t ≡ q t) × AreAlike p q ts

module _ (p q : TransitionData → Bool) where
  filter_alike : (ts : List TransitionData) → AreAlike p q ts → filter p ts ≡ filter q ts
  filter_alike [] alike = refl
  filter_alike (t ∷ ts) alike =
      let here : p t ≡ q t = alike.0 in
      let rest : filter p ts ≡ filter q ts = filter_alike ts alike.1 in
      rw (here, rest) refl

  any_alike : (ts : List TransitionData) → AreAlike p q ts → list_any p ts ≡ list_any q ts
  any_alike [] alike = refl
  any_alike (t ∷ ts) alike = ap₂ (λ c d. c || d) alike.0 (any_alike ts alike.1)

  evaluated_alike : (x : Marking) (ts : List TransitionData) → AreAlike p q ts → (earlier : List TransitionData) → evaluated x p earlier ts ≡ evaluated x q earlier ts
  evaluated_alike x [] alike earlier = refl
  evaluated_alike x (t ∷ ts) alike earlier =
      let here : p t ≡ q t = alike.0 in
      by_test (may_fire x earlier t)
      (λ may. rw (may, here) (ap (λ (us : List TransitionData). t ∷ us) (evaluated_alike x ts alike.1 (if q t then t ∷ earlier else earlier))))
      (λ off. rw off (evaluated_alike x ts alike.1 earlier))

  alike_evaluated : (x : Marking) (holds : TransitionData → Bool) (ts earlier : List TransitionData) → AreAlike p q ts → AreAlike p q (evaluated x holds earlier ts)
  alike_evaluated x holds [] earlier alike = tt
  alike_evaluated x holds (t ∷ ts) earlier alike =
      by_test (may_fire x earlier t)
      (λ may. rw may (alike.0, alike_evaluated x holds ts (if holds t then t ∷ earlier else earlier) alike.1))
      (λ off. rw off (alike_evaluated x holds ts earlier alike.1))

  fired_alike : (x : Marking) (ts : List TransitionData) → AreAlike p q ts → fired x p ts ≡ fired x q ts
  fired_alike x ts alike =
      filter_alike (evaluated x p [] ts) (alike_evaluated x p ts [] alike) ∙ ap (λ (us : List TransitionData). filter q us) (evaluated_alike x ts alike [])

-- ---- what stands behind a statement, and the turns of a FOR

followed_same : (e : Effect) (one other : State → Effect) → ((s : State) → one s ≡ other s) → followed_by e one ≡ followed_by e other
followed_same (on s) one other same = same s
followed_same (exited s) one other same = refl
followed_same (returned s) one other same = refl

behind_same : (e : Effect) (one other : State → Effect) → ((s : State) → one s ≡ other s) → behind_turn e one ≡ behind_turn e other
behind_same (on s) one other same = same s
behind_same (exited s) one other same = refl
behind_same (returned s) one other same = refl

turns_same : (rs : List Range) (count control : ℕ) (v step : ℤ) (one other : State → Effect) → ((s : State) → one s ≡ other s) → (s : State)
    → effect_of_turns rs count control v step one s ≡ effect_of_turns rs count control v step other s
turns_same rs zero control v step one other same s = refl
turns_same rs (suc count) control v step one other same s =
    ap (λ (e : Effect). behind_turn e (effect_of_turns rs count control (v +ℤ step) step one)) (same (stored rs control v s))
    ∙ behind_same (other (stored rs control v s)) (effect_of_turns rs count control (v +ℤ step) step one) (effect_of_turns rs count control (v +ℤ step) step other)
    (λ z. turns_same rs count control (v +ℤ step) step one other same z)

no_turns : (rs : List Range) (count control : ℕ) (v step : ℤ) (one other : State → Effect) (s : State) → count ≡ 0
    → effect_of_turns rs count control v step one s ≡ effect_of_turns rs count control v step other s
no_turns rs count control v step one other s none = rw none refl

module _ (a b : Callees) where
  -- ---- parts of what is used

  left_of : (us vs : List ℕ) → DoSameFor a b (us ++ vs) → DoSameFor a b us
  left_of us vs h u there = h u (is_among-left u us vs there)

  right_of : (us vs : List ℕ) → DoSameFor a b (us ++ vs) → DoSameFor a b vs
  right_of us vs h u there = h u (is_among-right u us vs there)

  head_of : (n : ℕ) (us : List ℕ) → DoSameFor a b (n ∷ us) → DoSame a b n
  head_of n us h = h n (is_among-head n us)

  tail_of : (n : ℕ) (us : List ℕ) → DoSameFor a b (n ∷ us) → DoSameFor a b us
  tail_of n us h u there = h u (is_among-tail u n us there)

  -- a FOR has no turns, or its statements' uses count
  by_turns : (count : ℕ) (us : List ℕ) → DoSameFor a b (if count == 0 then [] else us) → (count ≡ 0) ⊎ DoSameFor a b us
  by_turns count us h =
      by_test (count == 0) (λ none. inl (eqb-true count 0 none)) (λ some. inr (subst (λ (c : Bool). DoSameFor a b (if c then [] else us)) some h))

  -- an action never runs, or its statements' uses count
  by_action : (base : ℕ) (x l : Marking) (latch : Option ℕ) (associations : List Association) (us : List ℕ) → DoSameFor a b (uses_of_action latch associations us) → (s : State)
      → (runs base x l latch associations s ≡ false) ⊎ DoSameFor a b us
  by_action base x l None [] us h s = inl refl
  by_action base x l None (c ∷ more) us h s = inr h
  by_action base x l (Some place) associations us h s = inr h

  -- an action does the same where it never runs, and where its statements do
  ran_same : (test : Bool) (one other s : State) → (test ≡ false) ⊎ (one ≡ other) → (if test then one else s) ≡ (if test then other else s)
  ran_same test one other s (inl off) = rw off refl
  ran_same test one other s (inr same) = ap (λ (z : State). if test then z else s) same

  -- a call of a FUNCTION ends in the same state
  ended : (f : ℕ) (vs ws : List ℤ) → DoSame a b f → vs ≡ ws → a.ends f vs ≡ b.ends f ws
  ended f vs ws same is = ap (λ (x : List ℤ). a.ends f x) is ∙ same.1 ws

  module _ (base : ℕ) where
    -- ---- values and faults

    mutual
      value_same : (e : Expression) → DoSameFor a b (uses_in e) → (s : State) → value_of a base e s ≡ value_of b base e s
      value_same (number v) h s = refl
      value_same (cell place) h s = refl
      value_same (unary o t e) h s = ap (λ (v : ℤ). unary_applied o t v) (value_same e h s)
      value_same (chain e os) h s =
          joined_same os (right_of (uses_in e) (uses_in_operands os) h) s (value_of a base e s) (value_of b base e s) (value_same e (left_of (uses_in e) (uses_in_operands os) h) s)
      value_same (call_standard f t es) h s = ap (λ (vs : List ℤ). called f t vs) (values_same es h s)
      value_same (call_function f es) h s =
          ap answer_in (ended f (values_of a base es s) (values_of b base es s) (head_of f (uses_in_all es) h) (values_same es (tail_of f (uses_in_all es) h) s))

      joined_same : (os : Operands) → DoSameFor a b (uses_in_operands os) → (s : State) (v w : ℤ) → v ≡ w → value_on a base v os s ≡ value_on b base w os s
      joined_same no_operands h s v w is = is
      joined_same (operand o t e os) h s v w is =
          joined_same os (right_of (uses_in e) (uses_in_operands os) h) s (applied o t v (value_of a base e s)) (applied o t w (value_of b base e s))
          (ap₂ (λ x y. applied o t x y) is (value_same e (left_of (uses_in e) (uses_in_operands os) h) s))

      values_same : (es : Expressions) → DoSameFor a b (uses_in_all es) → (s : State) → values_of a base es s ≡ values_of b base es s
      values_same no_expressions h s = refl
      values_same (expression e es) h s =
          ap₂ (λ v vs. v ∷ vs) (value_same e (left_of (uses_in e) (uses_in_all es) h) s) (values_same es (right_of (uses_in e) (uses_in_all es) h) s)

    mutual
      faults_same : (e : Expression) → DoSameFor a b (uses_in e) → (s : State) → faults a base e s ≡ faults b base e s
      faults_same (number v) h s = refl
      faults_same (cell place) h s = refl
      faults_same (unary o t e) h s = faults_same e h s
      faults_same (chain e os) h s =
          ap₂ (λ c d. c || d) (faults_same e (left_of (uses_in e) (uses_in_operands os) h) s) (any_faults_same os (right_of (uses_in e) (uses_in_operands os) h) s)
      faults_same (call_standard f t es) h s = one_faults_same es h s
      faults_same (call_function f es) h s =
          ap₂ (λ c d. c || d) (one_faults_same es (tail_of f (uses_in_all es) h) s)
          (ap fault_in (ended f (values_of a base es s) (values_of b base es s) (head_of f (uses_in_all es) h) (values_same es (tail_of f (uses_in_all es) h) s)))

      any_faults_same : (os : Operands) → DoSameFor a b (uses_in_operands os) → (s : State) → any_faults a base os s ≡ any_faults b base os s
      any_faults_same no_operands h s = refl
      any_faults_same (operand o t e os) h s =
          let first = left_of (uses_in e) (uses_in_operands os) h in
          ap (λ (c : Bool). c || divides_by_zero o (value_of a base e s) || any_faults a base os s) (faults_same e first s)
          ∙ ap₂ (λ v c. faults b base e s || divides_by_zero o v || c) (value_same e first s) (any_faults_same os (right_of (uses_in e) (uses_in_operands os) h) s)

      one_faults_same : (es : Expressions) → DoSameFor a b (uses_in_all es) → (s : State) → one_faults a base es s ≡ one_faults b base es s
      one_faults_same no_expressions h s = refl
      one_faults_same (expression e es) h s =
          ap₂ (λ c d. c || d) (faults_same e (left_of (uses_in e) (uses_in_all es) h) s) (one_faults_same es (right_of (uses_in e) (uses_in_all es) h) s)

    -- ---- the conditions of transitions

    holds_alike : (ts : List TransitionData) → DoSameFor a b (uses_of_transitions ts) → (s : State) → AreAlike (holds_in a base s) (holds_in b base s) ts
    holds_alike [] h s = tt
    holds_alike (t ∷ ts) h s = (
      ap is_truth (value_same t.condition (left_of (uses_in t.condition) (uses_of_transitions ts) h) s),
      holds_alike ts (right_of (uses_in t.condition) (uses_of_transitions ts) h) s,
    )

    faults_alike : (ts : List TransitionData) → DoSameFor a b (uses_of_transitions ts) → (s : State) → AreAlike (faults_in a base s) (faults_in b base s) ts
    faults_alike [] h s = tt
    faults_alike (t ∷ ts) h s = (
      faults_same t.condition (left_of (uses_in t.condition) (uses_of_transitions ts) h) s,
      faults_alike ts (right_of (uses_in t.condition) (uses_of_transitions ts) h) s,
    )

    any_faults_alike : (x : Marking) (ts : List TransitionData) → DoSameFor a b (uses_of_transitions ts) → (s : State)
        → list_any (faults_in a base s) (evaluated x (holds_in a base s) [] ts) ≡ list_any (faults_in b base s) (evaluated x (holds_in b base s) [] ts)
    any_faults_alike x ts h s =
        any_alike (faults_in a base s) (faults_in b base s) (evaluated x (holds_in a base s) [] ts)
        (alike_evaluated (faults_in a base s) (faults_in b base s) x (holds_in a base s) ts [] (faults_alike ts h s))
        ∙ ap (λ (us : List TransitionData). list_any (faults_in b base s) us) (evaluated_alike (holds_in a base s) (holds_in b base s) x ts (holds_alike ts h s) [])

    module _ (rs : List Range) where
      transitions_same : (x : Marking) (steps : List StepCells) (ts : List TransitionData) → DoSameFor a b (uses_of_transitions ts) → (s : State)
          → effect_of_transitions a rs base x steps ts s ≡ effect_of_transitions b rs base x steps ts s
      transitions_same x steps ts h s =
          ap₂ (λ us fault. marked rs base x (is_next x us) 0 steps (with_fault fault s))
          (fired_alike (holds_in a base s) (holds_in b base s) x ts (holds_alike ts h s)) (any_faults_alike x ts h s)

      -- ---- statements

      mutual
        effect_same : (t : Statement) → DoSameFor a b (uses_of t) → (s : State) → effect_of a rs base t s ≡ effect_of b rs base t s
        effect_same (assign target e) h s = ap₂ (λ v fault. on (stored rs (base + target) v (with_fault fault s))) (value_same e h s) (faults_same e h s)
        effect_same (call_block n offset) h s = ap on ((head_of n [] h).0 rs (base + offset) s)
        effect_same (choice arms other) h s =
            let rest = right_of (uses_of_choices arms) (uses_of_all other) h in
            choices_same arms (left_of (uses_of_choices arms) (uses_of_all other) h) (effect_of_all a rs base other) (effect_of_all b rs base other) (λ z. all_same other rest z) s
        effect_same (cases kind e es other) h s =
            let first = left_of (uses_in e) (uses_of_entries es ++ uses_of_all other) h in
            let more = right_of (uses_in e) (uses_of_entries es ++ uses_of_all other) h in
            let rest = right_of (uses_of_entries es) (uses_of_all other) more in
            entries_same es (left_of (uses_of_entries es) (uses_of_all other) more) (value_of a base e s) (value_of b base e s) (value_same e first s) (effect_of_all a rs base other) (effect_of_all b rs base other)
            (λ z. all_same other rest z) (with_fault (faults a base e s) s)
            ∙ ap (λ (fault : Bool). effect_of_entries b rs base (value_of b base e s) es (effect_of_all b rs base other) (with_fault fault s)) (faults_same e first s)
        effect_same (repeat turns body) h s =
            ⊎_elim (λ none. no_turns rs turns.count (base + turns.control) turns.first turns.step (effect_of_all a rs base body) (effect_of_all b rs base body) s none)
            (λ some. turns_same rs turns.count (base + turns.control) turns.first turns.step (effect_of_all a rs base body) (effect_of_all b rs base body) (λ z. all_same body some z) s)
            (by_turns turns.count (uses_of_all body) h)
        effect_same (chart steps actions ts) h s =
            let x = marking_now base steps s in
            let l = marking_before base steps s in
            let latches = all_latched rs base x actions s in
            ap (λ (z : State). on (effect_of_transitions a rs base x steps ts z)) (actions_same x l actions (left_of (uses_of_actions actions) (uses_of_transitions ts) h) latches)
            ∙ ap on (transitions_same x steps ts (right_of (uses_of_actions actions) (uses_of_transitions ts) h) (effect_of_actions b rs base x l actions latches))
        effect_same exit h s = refl
        effect_same return h s = refl
        effect_same (own_body ss) h s = ap behind_body (all_same ss h s)

        pub all_same : (ts : Statements) → DoSameFor a b (uses_of_all ts) → (s : State) → effect_of_all a rs base ts s ≡ effect_of_all b rs base ts s
        all_same no_statements h s = refl
        all_same (statement t ts) h s =
            let behind = right_of (uses_of t) (uses_of_all ts) h in
            ap (λ (e : Effect). followed_by e (effect_of_all a rs base ts)) (effect_same t (left_of (uses_of t) (uses_of_all ts) h) s)
            ∙ followed_same (effect_of b rs base t s) (effect_of_all a rs base ts) (effect_of_all b rs base ts) (λ z. all_same ts behind z)

        choices_same : (arms : Choices) → DoSameFor a b (uses_of_choices arms) → (other others : State → Effect) → ((z : State) → other z ≡ others z) → (s : State)
            → effect_of_choices a rs base arms other s ≡ effect_of_choices b rs base arms others s
        choices_same no_choices h other others same s = same s
        choices_same (choose e ss arms) h other others same s =
            let first = left_of (uses_in e) (uses_of_all ss ++ uses_of_choices arms) h in
            let more = right_of (uses_in e) (uses_of_all ss ++ uses_of_choices arms) h in
            let truth : is_truth (value_of a base e s) ≡ is_truth (value_of b base e s) = ap is_truth (value_same e first s) in
            let begun : with_fault (faults a base e s) s ≡ with_fault (faults b base e s) s = ap (λ (fault : Bool). with_fault fault s) (faults_same e first s) in
            let ran : effect_of_all a rs base ss (with_fault (faults a base e s) s) ≡ effect_of_all b rs base ss (with_fault (faults b base e s) s) =
            ap (λ (z : State). effect_of_all a rs base ss z) begun ∙ all_same ss (left_of (uses_of_all ss) (uses_of_choices arms) more) (with_fault (faults b base e s) s) in
            let later : effect_of_choices a rs base arms other (with_fault (faults a base e s) s) ≡ effect_of_choices b rs base arms others (with_fault (faults b base e s) s) =
            ap (λ (z : State). effect_of_choices a rs base arms other z) begun
            ∙ choices_same arms (right_of (uses_of_all ss) (uses_of_choices arms) more) other others same (with_fault (faults b base e s) s) in
            if-same _ _ _ _ _ _ truth ran later

        entries_same : (es : Entries) → DoSameFor a b (uses_of_entries es) → (v w : ℤ) → v ≡ w → (other others : State → Effect) → ((z : State) → other z ≡ others z) → (s : State)
            → effect_of_entries a rs base v es other s ≡ effect_of_entries b rs base w es others s
        entries_same no_entries h v w is other others same s = same s
        entries_same (entry labels ss es) h v w is other others same s =
            let named : is_labelled v labels ≡ is_labelled w labels = ap (λ (x : ℤ). is_labelled x labels) is in
            let ran : effect_of_all a rs base ss s ≡ effect_of_all b rs base ss s = all_same ss (left_of (uses_of_all ss) (uses_of_entries es) h) s in
            let later : effect_of_entries a rs base v es other s ≡ effect_of_entries b rs base w es others s =
            entries_same es (right_of (uses_of_all ss) (uses_of_entries es) h) v w is other others same s in
            if-same _ _ _ _ _ _ named ran later

        actions_same : (x l : Marking) (actions : Actions) → DoSameFor a b (uses_of_actions actions) → (s : State)
            → effect_of_actions a rs base x l actions s ≡ effect_of_actions b rs base x l actions s
        actions_same x l no_actions h s = refl
        actions_same x l (action latch associations ss rest) h s =
            let here = left_of (uses_of_action latch associations (uses_of_all ss)) (uses_of_actions rest) h in
            let behind = right_of (uses_of_action latch associations (uses_of_all ss)) (uses_of_actions rest) h in
            let one = state_of (effect_of_all a rs base ss s) in
            let other = state_of (effect_of_all b rs base ss s) in
            let ran : (runs base x l latch associations s ≡ false) ⊎ (one ≡ other) =
            ⊎_elim (λ never. inl never) (λ used. inr (ap state_of (all_same ss used s))) (by_action base x l latch associations (uses_of_all ss) here s) in
            ap (λ (z : State). effect_of_actions a rs base x l rest z) (ran_same (runs base x l latch associations s) one other s ran)
            ∙ actions_same x l rest behind (if runs base x l latch associations s then other else s)
