-- The statements of a typed body set no place from a place on, those being the chart's; and the whole body sets its own cells alone.
use Rattle.std.proofs.Common.{ℕ, ◌<◌, ◌≤◌, List, [], ◌∷◌, length, arith}
use Rattle.std.specs.Prelude.{All, None, Some}
use Rattle.std.proofs.lemmas.List.Elements.{All-head, All-tail}
use Rattle.plc_types.specs.declared.elementary.Elementary.{Elementary}
use Rattle.program_tree.specs.declared.typed.StepCells.{StepCells}
use Rattle.program_tree.specs.Tree.{Statement, assign, call_block, choice, cases, repeat, chart, exit, return, own_body, Statements, no_statements, statement, Choices, no_choices, choose, Entries, no_entries, entry, Actions, no_actions, action}
use Rattle.program_tree.specs.ChartPlaces.{chart_places, latch_places, AreRisingFrom}
use Rattle.flat_form.specs.WellTyped.{extent_of_steps, extent_of, extent_of_all, extent_of_choices, extent_of_entries, extent_of_actions, extent_of_bodies}
use Rattle.typed_programs.specs.Scopes.{Pous, BodyScope}
use Rattle.typed_programs.specs.Statements.{IsFlagOf, IsTyped, AreTyped, AreTypedChoices, AreTypedEntries, AreTypedActions, IsTypedPart, AreTypedParts}

pub rising-lower : (low lower : ℕ) (places : List ℕ) → lower ≤ low → AreRisingFrom low places → AreRisingFrom lower places
rising-lower low lower [] less h = tt
rising-lower low lower (p ∷ places) less h = let first = h.0 in (omega arith, h.1)

module _ (pous : Pous) (b : BodyScope) (extents : ℕ → ℕ) (each : (block : ℕ) → block < b.pous → extents block ≤ length (pous.instances block)) where
  mutual
    statement-extent : (t : Statement) → IsTyped pous b t → extent_of extents t ≤ b.settable
    statement-extent (assign target e) h = let low = h.0.1 in omega arith
    statement-extent (call_block block offset) h = let room = h.2 in let its = each block h.0 in omega arith
    statement-extent (choice arms other) h = let first = choices-extent arms h.0 in let rest = list-extent other h.1 in omega arith
    statement-extent (cases kind e es other) h = let first = entries-extent kind es h.1 in let rest = list-extent other h.2 in omega arith
    statement-extent (repeat turns body) h = let low = h.0.1 in let rest = list-extent body h.2 in omega arith
    statement-extent (chart _ _ _) h = absurd h
    statement-extent exit h = omega arith
    statement-extent return h = omega arith
    statement-extent (own_body ss) h = list-extent ss h

    list-extent : (ts : Statements) → AreTyped pous b ts → extent_of_all extents ts ≤ b.settable
    list-extent no_statements h = omega arith
    list-extent (statement t ts) h = let first = statement-extent t h.0 in let rest = list-extent ts h.1 in omega arith

    choices-extent : (arms : Choices) → AreTypedChoices pous b arms → extent_of_choices extents arms ≤ b.settable
    choices-extent no_choices h = omega arith
    choices-extent (choose e ss arms) h = let first = list-extent ss h.1 in let rest = choices-extent arms h.2 in omega arith

    entries-extent : (kind : Elementary) (es : Entries) → AreTypedEntries pous b kind es → extent_of_entries extents es ≤ b.settable
    entries-extent kind no_entries h = omega arith
    entries-extent kind (entry labels ss es) h = let first = list-extent ss h.1 in let rest = entries-extent kind es h.2 in omega arith

  -- the bodies of actions leave the chart's cells
  pub bodies-extent : (n : ℕ) (all : Actions) → AreTypedActions pous b n all → extent_of_bodies extents all ≤ b.settable
  bodies-extent n no_actions h = omega arith
  bodies-extent n (action latch associations ss rest) h = let first = list-extent ss h.2 in let more = bodies-extent n rest h.3 in omega arith

  -- ---- charts

  module _ (within : b.settable ≤ length b.places) where
    steps-extent : (steps : List StepCells) (all : Actions) → All (IsFlagOf b) (chart_places steps all) → extent_of_steps steps ≤ length b.places
    steps-extent [] all h = omega arith
    steps-extent (p ∷ steps) all h =
        let now = All-head (IsFlagOf b) p.active (p.before ∷ chart_places steps all) h in
        let later = All-tail (IsFlagOf b) p.active (p.before ∷ chart_places steps all) h in
        let was = All-head (IsFlagOf b) p.before (chart_places steps all) later in
        let more = steps-extent steps all (All-tail (IsFlagOf b) p.before (chart_places steps all) later) in
        let a = now.0.1 in
        let c = was.0.1 in
        omega arith

    latches-flags : (steps : List StepCells) (all : Actions) → All (IsFlagOf b) (chart_places steps all) → All (IsFlagOf b) (latch_places all)
    latches-flags [] all h = h
    latches-flags (p ∷ steps) all h =
        latches-flags steps all (All-tail (IsFlagOf b) p.before (chart_places steps all) (All-tail (IsFlagOf b) p.active (p.before ∷ chart_places steps all) h))

    actions-extent : (n : ℕ) (all : Actions) → All (IsFlagOf b) (latch_places all) → AreTypedActions pous b n all → extent_of_actions extents all ≤ length b.places
    actions-extent n no_actions flags h = omega arith
    actions-extent n (action None associations ss rest) flags h =
        let first = list-extent ss h.2 in
        let more = actions-extent n rest flags h.3 in
        omega arith
    actions-extent n (action (Some place) associations ss rest) flags h =
        let its = All-head (IsFlagOf b) place (latch_places rest) flags in
        let low = its.0.1 in
        let first = list-extent ss h.2 in
        let more = actions-extent n rest (All-tail (IsFlagOf b) place (latch_places rest) flags) h.3 in
        omega arith

    list-within : (t : Statement) → extent_of extents t ≤ b.settable → extent_of extents t ≤ length b.places
    list-within t low = omega arith

    part-extent : (t : Statement) → IsTypedPart pous b t → extent_of extents t ≤ length b.places
    part-extent (assign target e) h = list-within (assign target e) (statement-extent (assign target e) h)
    part-extent (call_block block offset) h = list-within (call_block block offset) (statement-extent (call_block block offset) h)
    part-extent (choice arms other) h = list-within (choice arms other) (statement-extent (choice arms other) h)
    part-extent (cases kind e es other) h = list-within (cases kind e es other) (statement-extent (cases kind e es other) h)
    part-extent (repeat turns body) h = list-within (repeat turns body) (statement-extent (repeat turns body) h)
    part-extent (chart steps all ts) h =
        let first = steps-extent steps all h.0 in
        let more = actions-extent (length steps) all (latches-flags steps all h.0) h.2 in
        omega arith
    part-extent exit h = omega arith
    part-extent return h = omega arith
    part-extent (own_body ss) h = list-within (own_body ss) (list-extent ss h)

    pub parts-extent : (ts : Statements) → AreTypedParts pous b ts → extent_of_all extents ts ≤ length b.places
    parts-extent no_statements h = omega arith
    parts-extent (statement t ts) h = let first = part-extent t h.0 in let rest = parts-extent ts h.1 in omega arith
