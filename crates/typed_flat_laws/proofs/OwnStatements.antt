-- Typed statements name cells of their owner, set values that fit, and run blocks among the owner's cells.
use Rattle.std.proofs.Common.{◌≡◌, ℕ, ◌+◌, ◌<◌, ◌≤◌, Bool, true, false, ◌||◌, List, [], ◌∷◌, length, refl, ap, subst, ◌∙◌, arith}
use Rattle.std.specs.Prelude.{◌==◌, All}
use Rattle.std.proofs.lemmas.Bool.{or_right, or_parts}
use Rattle.std.proofs.lemmas.List.Elements.{All-head, All-tail}
use Rattle.plc_types.specs.declared.elementary.Elementary.{Elementary}
use Rattle.plc_types.specs.declared.elementary.Elementary.TheVariants as types
use Rattle.plc_types.specs.declared.range.Range.{Range}
use Rattle.program_tree.specs.declared.typed.Association.{Association}
use Rattle.program_tree.specs.Tree.{Expression, TransitionData, Statement, assign, call_block, choice, cases, repeat, chart, exit, return, own_body, Statements, no_statements, statement, Choices, no_choices, choose, Entries, no_entries, entry, Actions, no_actions, action}
use Rattle.program_tree.specs.Leaving.{can_exit, can_exit_all, can_return, can_return_all, LeavesNothing}
use Rattle.program_tree.specs.declared.scratch.Scratch.{Scratch}
use Rattle.program_tree.specs.ChartPlaces.{chart_places}
use Rattle.program_tree.specs.Places.{place_at}
use Rattle.meaning.specs.Effects.{range_at}
use Rattle.meaning.specs.StaysIn.{turns_stay}
use Rattle.flat_form.specs.WellTyped as well
use Rattle.flat_form.specs.WellTyped.{AreFlags, OfAssociated, extent_of_bodies}
use Rattle.flat_form.proofs.Owed.{owes}
use Rattle.typed_programs.specs.Scopes.{IsSettable}
use Rattle.typed_programs.specs.Expressions.{stays_in}
use Rattle.typed_programs.specs.Statements.{IsFlagOf, IsTyped, AreTyped, AreTypedChoices, AreTypedEntries, AreTypedActions, AreTypedTransitions, IsTypedPart, AreTypedParts}
use Rattle.typed_flat_laws.proofs.OwnCells.{IsCellFor, OwnCells, pous_for, stays-same}
use Rattle.typed_flat_laws.proofs.OwnValues.{own-place, EachMayBeCalled, value-typed}
use Rattle.typed_flat_laws.proofs.Extents.{rising-lower, bodies-extent}

-- what a place takes is tested, or fits
tested-or : (is_subrange tested fits : Bool) → (is_subrange ≡ true → tested ≡ true) → (is_subrange || fits) ≡ true → (tested || fits) ≡ true
tested-or true tested fits known h = rw (known refl) refl
tested-or false tested fits known h = or_right tested fits h

-- the cells of an instance of a block are an owner's, from a base on
pub record IsInstanceAt (ranges : List Range) (tested : ℕ → Bool) (cells : List Scratch) (base : ℕ) : Type 0 where
  pub behind_fault : 0 < base
  pub owns : (n : ℕ) → n < length cells → IsCellFor ranges tested (base + n) (place_at cells n)

module _ (w : OwnCells) (MayCall : ℕ → ℕ → Type 0) (each_call : EachMayBeCalled w MayCall) (MayRun : ℕ → ℕ → Type 0)
    (each_run : (block base : ℕ) → block < w.scope.pous → IsInstanceAt w.ranges w.tested (w.instances block) base → MayRun block base)
    (extents : ℕ → ℕ) (each_extent : (block : ℕ) → block < w.scope.pous → extents block ≤ length (w.instances block)) where
  abbrev Value : Expression → Type 0
  Value e = well.IsTypedValue w.frames MayCall w.ranges w.base e

  abbrev pub Lists : Statements → Type 0
  Lists ts = well.AreTyped w.frames MayCall MayRun extents w.ranges w.tested w.base ts

  abbrev One : Statement → Type 0
  One t = well.IsTyped w.frames MayCall MayRun extents w.ranges w.tested w.base t

  settable-cell : (n : ℕ) → IsSettable w.scope n → IsCellFor w.ranges w.tested (w.base + n) (place_at w.scope.places n)
  settable-cell n h = let most = w.within in let low = h.0 in let high = h.1 in w.owns n low (omega arith)

  settable-own : (n : ℕ) → IsSettable w.scope n → well.IsOwnPlace w.ranges (w.base + n)
  settable-own n h = let most = w.within in let low = h.0 in let high = h.1 in own-place w n low (omega arith)

  assign-own : (target : ℕ) (e : Expression) → IsTyped (pous_for w) w.scope (assign target e) → One (assign target e)
  assign-own target e h =
      let p = place_at w.scope.places target in
      let its = settable-cell target h.0 in
      let same : well.stays_in w.frames w.ranges w.base e (range_at w.ranges (w.base + target)) ≡ stays_in (pous_for w) w.scope.places e p.range
      = ap (λ (r : Range). well.stays_in w.frames w.ranges w.base e r) its.range ∙ stays-same w p.kind e p.range h.1.0 in
      (settable-own target h.0, value-typed w MayCall each_call p.kind e h.1.0, tested-or p.is_subrange (w.tested (w.base + target)) _ its.is_subrange (ap (λ (x : Bool). p.is_subrange || x) same ∙ h.1.1))

  run-own : (block offset : ℕ) → IsTyped (pous_for w) w.scope (call_block block offset) → One (call_block block offset)
  run-own block offset h =
      let first = h.1 in
      let room = h.2 in
      let most = w.within in
      let some = w.behind_fault in
      let there = λ (n : ℕ) (low : n < length (w.instances block)).
      let e : w.base + (offset + n) ≡ w.base + offset + n = omega arith in
      subst (λ j. IsCellFor w.ranges w.tested j (place_at (w.instances block) n)) e
      (subst (λ (p : Scratch). IsCellFor w.ranges w.tested (w.base + (offset + n)) p) (h.3 n low) (w.owns (offset + n) (omega arith) (omega arith))) in
      (omega arith, each_run block (w.base + offset) h.0 (record { behind_fault = omega arith; owns = there }))

  mutual
    statement-own : (t : Statement) → IsTyped (pous_for w) w.scope t → One t
    statement-own (assign target e) h = assign-own target e h
    statement-own (call_block block offset) h = run-own block offset h
    statement-own (choice arms other) h = (choices-own arms h.0, list-own other h.1)
    statement-own (cases kind e es other) h = (value-typed w MayCall each_call kind e h.0, entries-own kind es h.1, list-own other h.2)
    statement-own (repeat turns body) h =
        let its = settable-cell turns.control h.0 in (
          settable-own turns.control h.0,
          or_right (w.tested (w.base + turns.control)) (turns_stay turns (range_at w.ranges (w.base + turns.control))) (ap (λ (r : Range). turns_stay turns r) its.range ∙ h.1),
          owes (turns.count == 0) (Lists body) (list-own body h.2),
        )
    statement-own (chart _ _ _) h = absurd h
    statement-own exit h = tt
    statement-own return h = tt
    statement-own (own_body ss) h = list-own ss h

    pub list-own : (ts : Statements) → AreTyped (pous_for w) w.scope ts → Lists ts
    list-own no_statements h = tt
    list-own (statement t ts) h = (statement-own t h.0, list-own ts h.1)

    choices-own : (arms : Choices) → AreTypedChoices (pous_for w) w.scope arms → well.AreTypedChoices w.frames MayCall MayRun extents w.ranges w.tested w.base arms
    choices-own no_choices h = tt
    choices-own (choose e ss arms) h = (value-typed w MayCall each_call types.Bool e h.0, list-own ss h.1, choices-own arms h.2)

    entries-own : (kind : Elementary) (es : Entries) → AreTypedEntries (pous_for w) w.scope kind es → well.AreTypedEntries w.frames MayCall MayRun extents w.ranges w.tested w.base es
    entries-own kind no_entries h = tt
    entries-own kind (entry labels ss es) h = (list-own ss h.1, entries-own kind es h.2)

  -- ---- charts

  flags-own : (places : List ℕ) → All (IsFlagOf w.scope) places → AreFlags w.ranges w.base places
  flags-own [] h = tt
  flags-own (p ∷ places) h =
      let its = All-head (IsFlagOf w.scope) p places h in
      let range = (w.owns p its.0.0 its.0.1).range ∙ ap (λ (c : Scratch). c.range) its.1 in
      (own-place w p its.0.0 its.0.1, ap (λ (r : Range). r.low) range, ap (λ (r : Range). r.high) range, flags-own places (All-tail (IsFlagOf w.scope) p places h))

  associated-own : (associations : List Association) (P : Type 0) → P → OfAssociated associations P
  associated-own [] P p = tt
  associated-own (a ∷ more) P p = p

  actions-own : (n : ℕ) (all : Actions) → AreTypedActions (pous_for w) w.scope n all → well.AreTypedActions w.frames MayCall MayRun extents w.ranges w.tested w.base n all
  actions-own n no_actions h = tt
  actions-own n (action latch associations ss rest) h = (h.0, h.1, associated-own associations (Lists ss) (list-own ss h.2), actions-own n rest h.3)

  transitions-own : (n : ℕ) (ts : List TransitionData) → AreTypedTransitions (pous_for w) w.scope n ts → well.AreTypedTransitions w.frames MayCall MayRun extents w.ranges w.tested w.base n ts
  transitions-own n [] h = tt
  transitions-own n (t ∷ ts) h = (value-typed w MayCall each_call types.Bool t.condition h.0, h.1, h.2, transitions-own n ts h.3)

  -- no EXIT and no RETURN leaves a chart of a body that they do not leave
  abbrev IsNotLeft : Statement → Type 0
  IsNotLeft t = (can_exit t ≡ false) × (can_return t ≡ false)

  part-own : (t : Statement) → IsNotLeft t → IsTypedPart (pous_for w) w.scope t → One t
  part-own (assign target e) g h = assign-own target e h
  part-own (call_block block offset) g h = run-own block offset h
  part-own (choice arms other) g h = statement-own (choice arms other) h
  part-own (cases kind e es other) g h = statement-own (cases kind e es other) h
  part-own (repeat turns body) g h = statement-own (repeat turns body) h
  part-own (chart steps all ts) g h = (
    flags-own (chart_places steps all) h.0,
    rising-lower w.scope.settable (extent_of_bodies extents all) (chart_places steps all) (bodies-extent (pous_for w) w.scope extents each_extent (length steps) all h.2) h.1,
    actions-own (length steps) all h.2,
    transitions-own (length steps) ts h.3,
    g,
  )
  part-own exit g h = tt
  part-own return g h = tt
  part-own (own_body ss) g h = statement-own (own_body ss) h

  pub parts-own : (ts : Statements) → LeavesNothing ts → AreTypedParts (pous_for w) w.scope ts → Lists ts
  parts-own no_statements g h = tt
  parts-own (statement t ts) g h =
      let exits = or_parts (can_exit t) (can_exit_all ts) g.0 in
      let returns = or_parts (can_return t) (can_return_all ts) g.1 in
      (part-own t (exits.0, returns.0) h.0, parts-own ts (exits.1, returns.1) h.1)
