-- Statements leave the cells from their extent on, FAULT apart.
use Rattle.std.proofs.Common.{◌≡◌, ◌≢◌, ℕ, zero, suc, ◌+◌, ◌<◌, ◌≤◌, Bool, true, false, List, [], ◌∷◌, ℤ, pos, ◌+ℤ◌, refl, ◌∙◌, arith}
use Rattle.std.specs.Prelude.{◌==◌, max, Option, None, Some, slice_index_or, if◌then◌else◌}
use Rattle.std.proofs.Math.Nat.{le-max_left, le-max_right}
use Rattle.std.proofs.lemmas.List.{get_or-set_other}
use Rattle.plc_types.specs.declared.range.Range.{Range}
use Rattle.program_tree.specs.declared.typed.StepCells.{StepCells}
use Rattle.program_tree.specs.declared.typed.Association.{Association}
use Rattle.plc_types.specs.Types.{in_range}
use Rattle.program_tree.specs.Tree.{Statement, assign, call_block, choice, cases, repeat, chart, exit, return, own_body, Statements, no_statements, statement, Choices, no_choices, choose, Entries, no_entries, entry, Actions, no_actions, action, CalledData, block, function}
use Rattle.meaning.specs.Values.{State, Callees, value_of, faults, is_truth}
use Rattle.meaning.specs.Charts.{Marking, runs}
use Rattle.meaning.specs.Effects.{Effect, on, exited, returned, state_of, followed_by, behind_turn, behind_body, range_at, with_fault, stored, is_labelled, effect_of_turns, latched, all_latched, marked, effect_of, effect_of_all, effect_of_choices, effect_of_entries, effect_of_actions}
use Rattle.meaning.specs.Calls.{run_of, nothing, callees_of}
use Rattle.flat_form.specs.Pous.{block_body}
use Rattle.flat_form.specs.WellTyped.{extent_of_latch, extent_of_steps, extent_of, extent_of_all, extent_of_choices, extent_of_entries, extent_of_actions, extents_of}
use Rattle.flat_laws.proofs.Shown.{held}

module _ (own : List Range) (p : ℕ) (above : 0 < p) where
  -- a change of states that leaves the place
  abbrev pub Leaves : (State → State) → Type 0
  Leaves effect = (s : State) → held (effect s) p ≡ held s p

  left-if : (b : Bool) (x y s : State) → held x p ≡ held s p → held y p ≡ held s p → held (if b then x else y) p ≡ held s p
  left-if true x y s a b = a
  left-if false x y s a b = b

  pub with_fault-leaves : (b : Bool) → Leaves (with_fault b)
  with_fault-leaves true s = get_or-set_other s 0 p (pos 1) (pos 0) (omega arith)
  with_fault-leaves false s = refl

  pub stored-leaves : (c : ℕ) (v : ℤ) → p ≢ c → Leaves (stored own c v)
  stored-leaves c v other s = left-if (in_range v (range_at own c)) _ _ s (get_or-set_other s c p v (pos 0) other) (with_fault-leaves true s)

  below-leaves : (c : ℕ) (v : ℤ) → c < p → Leaves (stored own c v)
  below-leaves c v h s = stored-leaves c v (omega arith) s

  -- the same of an effect, whatever the outcome
  abbrev pub LeavesPlace : (State → Effect) → Type 0
  LeavesPlace effect = (s : State) → held (state_of (effect s)) p ≡ held s p

  left-if_effect : (b : Bool) (x y : Effect) (s : State) → held (state_of x) p ≡ held s p → held (state_of y) p ≡ held s p → held (state_of (if b then x else y)) p ≡ held s p
  left-if_effect true x y s a b = a
  left-if_effect false x y s a b = b

  followed-leaves : (e : Effect) (next : State → Effect) → LeavesPlace next → held (state_of (followed_by e next)) p ≡ held (state_of e) p
  followed-leaves (on s) next each = each s
  followed-leaves (exited s) next each = refl
  followed-leaves (returned s) next each = refl

  behind-leaves : (e : Effect) (next : State → Effect) → LeavesPlace next → held (state_of (behind_turn e next)) p ≡ held (state_of e) p
  behind-leaves (on s) next each = each s
  behind-leaves (exited s) next each = refl
  behind-leaves (returned s) next each = refl

  body-leaves : (e : Effect) → held (state_of (behind_body e)) p ≡ held (state_of e) p
  body-leaves (on s) = refl
  body-leaves (exited s) = refl
  body-leaves (returned s) = refl

  turns-leave : (n c : ℕ) (v step : ℤ) (body : State → Effect) → c < p → LeavesPlace body → LeavesPlace (effect_of_turns own n c v step body)
  turns-leave zero c v step body h each s = below-leaves c v h s
  turns-leave (suc n) c v step body h each s =
      behind-leaves (body (stored own c v s)) (effect_of_turns own n c (v +ℤ step) step body) (turns-leave n c (v +ℤ step) step body h each) ∙ each _ ∙ below-leaves c v h s

  module _ (base : ℕ) (x : Marking) where
    latch-leaves : (latch : Option ℕ) (associations : List Association) → base + extent_of_latch latch ≤ p → Leaves (latched own base x latch associations)
    latch-leaves None associations far s = refl
    latch-leaves (Some place) associations far s = below-leaves (base + place) _ (omega arith) s

    marks-leave : (next : ℕ → Bool) (i : ℕ) (steps : List StepCells) → base + extent_of_steps steps ≤ p → Leaves (marked own base x next i steps)
    marks-leave next i [] far s = refl
    marks-leave next i (c ∷ rest) far s =
        let a = le-max_left (max (c.active + 1) (c.before + 1)) (extent_of_steps rest) in
        let b = le-max_right (max (c.active + 1) (c.before + 1)) (extent_of_steps rest) in
        let d = le-max_left (c.active + 1) (c.before + 1) in
        let e = le-max_right (c.active + 1) (c.before + 1) in
        marks-leave next (i + 1) rest (omega arith) _ ∙ below-leaves (base + c.active) _ (omega arith) _ ∙ below-leaves (base + c.before) _ (omega arith) s

  module _ (callees : Callees) (extents : ℕ → ℕ) (calls : (b base : ℕ) → base + extents b ≤ p → Leaves (callees.runs b own base)) where
    latches-leave : (base : ℕ) (x : Marking) (actions : Actions) → base + extent_of_actions extents actions ≤ p → Leaves (all_latched own base x actions)
    latches-leave base x no_actions far s = refl
    latches-leave base x (action latch associations body rest) far s =
        let a = le-max_left (extent_of_latch latch) (max (extent_of_all extents body) (extent_of_actions extents rest)) in
        let b = le-max_right (extent_of_latch latch) (max (extent_of_all extents body) (extent_of_actions extents rest)) in
        let c = le-max_right (extent_of_all extents body) (extent_of_actions extents rest) in
        latches-leave base x rest (omega arith) _ ∙ latch-leaves base x latch associations (omega arith) s

    mutual
      pub statement-leaves : (base : ℕ) (t : Statement) → base + extent_of extents t ≤ p → LeavesPlace (effect_of callees own base t)
      statement-leaves base (assign target e) far s = below-leaves (base + target) _ (omega arith) _ ∙ with_fault-leaves (faults callees base e s) s
      statement-leaves base (call_block b offset) far s = calls b (base + offset) (omega arith) s
      statement-leaves base (choice arms other) far s =
          let a = le-max_left (extent_of_choices extents arms) (extent_of_all extents other) in
          let b = le-max_right (extent_of_choices extents arms) (extent_of_all extents other) in
          choices-leave base arms (effect_of_all callees own base other) (omega arith) (all-leave base other (omega arith)) s
      statement-leaves base (cases kind e es other) far s =
          let a = le-max_left (extent_of_entries extents es) (extent_of_all extents other) in
          let b = le-max_right (extent_of_entries extents es) (extent_of_all extents other) in
          entries-leave base (value_of callees base e s) es (effect_of_all callees own base other) (omega arith) (all-leave base other (omega arith)) _ ∙ with_fault-leaves (faults callees base e s) s
      statement-leaves base (repeat turns body) far s =
          let a = le-max_left (turns.control + 1) (extent_of_all extents body) in
          let b = le-max_right (turns.control + 1) (extent_of_all extents body) in
          turns-leave turns.count (base + turns.control) turns.first turns.step (effect_of_all callees own base body) (omega arith) (all-leave base body (omega arith)) s
      statement-leaves base (chart steps actions ts) far s =
          let a = le-max_left (extent_of_steps steps) (extent_of_actions extents actions) in
          let b = le-max_right (extent_of_steps steps) (extent_of_actions extents actions) in
          marks-leave base _ _ 0 steps (omega arith) _ ∙ with_fault-leaves _ _ ∙ actions-leave base _ _ actions (omega arith) _ ∙ latches-leave base _ actions (omega arith) s
      statement-leaves base exit far s = refl
      statement-leaves base return far s = refl
      statement-leaves base (own_body ss) far s = body-leaves (effect_of_all callees own base ss s) ∙ all-leave base ss far s

      pub all-leave : (base : ℕ) (ts : Statements) → base + extent_of_all extents ts ≤ p → LeavesPlace (effect_of_all callees own base ts)
      all-leave base no_statements far s = refl
      all-leave base (statement t ts) far s =
          let a = le-max_left (extent_of extents t) (extent_of_all extents ts) in
          let b = le-max_right (extent_of extents t) (extent_of_all extents ts) in
          followed-leaves (effect_of callees own base t s) (effect_of_all callees own base ts) (all-leave base ts (omega arith)) ∙ statement-leaves base t (omega arith) s

      choices-leave : (base : ℕ) (arms : Choices) (other : State → Effect) → base + extent_of_choices extents arms ≤ p → LeavesPlace other → LeavesPlace (effect_of_choices callees own base arms other)
      choices-leave base no_choices other far behind s = behind s
      choices-leave base (choose e ss arms) other far behind s =
          let a = le-max_left (extent_of_all extents ss) (extent_of_choices extents arms) in
          let b = le-max_right (extent_of_all extents ss) (extent_of_choices extents arms) in
          let first = with_fault-leaves (faults callees base e s) s in
          left-if_effect (is_truth (value_of callees base e s)) _ _ s (all-leave base ss (omega arith) _ ∙ first) (choices-leave base arms other (omega arith) behind _ ∙ first)

      entries-leave : (base : ℕ) (v : ℤ) (es : Entries) (other : State → Effect) → base + extent_of_entries extents es ≤ p → LeavesPlace other → LeavesPlace (effect_of_entries callees own base v es other)
      entries-leave base v no_entries other far behind s = behind s
      entries-leave base v (entry labels ss es) other far behind s =
          let a = le-max_left (extent_of_all extents ss) (extent_of_entries extents es) in
          let b = le-max_right (extent_of_all extents ss) (extent_of_entries extents es) in
          left-if_effect (is_labelled v labels) _ _ s (all-leave base ss (omega arith) s) (entries-leave base v es other (omega arith) behind s)

      pub actions-leave : (base : ℕ) (x l : Marking) (actions : Actions) → base + extent_of_actions extents actions ≤ p → Leaves (effect_of_actions callees own base x l actions)
      actions-leave base x l no_actions far s = refl
      actions-leave base x l (action latch associations body rest) far s =
          let a = le-max_right (extent_of_latch latch) (max (extent_of_all extents body) (extent_of_actions extents rest)) in
          let b = le-max_left (extent_of_all extents body) (extent_of_actions extents rest) in
          let c = le-max_right (extent_of_all extents body) (extent_of_actions extents rest) in
          actions-leave base x l rest (omega arith) _ ∙ left-if (runs base x l latch associations s) _ _ s (all-leave base body (omega arith) s) refl

  -- a run of one of the first so many POUs
  pub runs-leave : (ps : List CalledData) (n b base : ℕ) → base + extents_of ps n b ≤ p → Leaves ((callees_of ps n).runs b own base)
  runs-leave ps zero b base far s = refl
  runs-leave ps (suc n) b base far s = next_leaves ps n b base (runs-leave ps n) far s
    where
      body_leaves : (ps : List CalledData) (n base : ℕ) (sofar : (b base : ℕ) → base + extents_of ps n b ≤ p → Leaves ((callees_of ps n).runs b own base)) (q : CalledData)
          → base + extent_of_all (extents_of ps n) (block_body q) ≤ p → Leaves (run_of (callees_of ps n) q own base)
      body_leaves ps n base sofar (block body) far s = all-leave (callees_of ps n) (extents_of ps n) sofar base body far s
      body_leaves ps n base sofar (function types ranges start body) far s = refl

      by_test : (ps : List CalledData) (n b base : ℕ) (sofar : (b base : ℕ) → base + extents_of ps n b ≤ p → Leaves ((callees_of ps n).runs b own base)) (test : Bool)
          → base + (if test then extent_of_all (extents_of ps n) (block_body (slice_index_or ps n nothing)) else extents_of ps n b) ≤ p
          → (s : State) → held (if test then run_of (callees_of ps n) (slice_index_or ps n nothing) own base s else (callees_of ps n).runs b own base s) p ≡ held s p
      by_test ps n b base sofar true far s = body_leaves ps n base sofar (slice_index_or ps n nothing) far s
      by_test ps n b base sofar false far s = sofar b base far s

      next_leaves : (ps : List CalledData) (n b base : ℕ) (sofar : (b base : ℕ) → base + extents_of ps n b ≤ p → Leaves ((callees_of ps n).runs b own base)) → base + extents_of ps (suc n) b ≤ p → Leaves ((callees_of ps (suc n)).runs b own base)
      next_leaves ps n b base sofar far s = by_test ps n b base sofar (b == n) far s
