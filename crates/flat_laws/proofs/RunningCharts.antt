-- The flat list of a chart shows what the chart does.
use Rattle.std.proofs.Common.{◌≡◌, ℕ, zero, suc, ◌+◌, ◌<◌, ◌≤◌, Bool, true, false, List, [], ◌∷◌, ◌++◌, length, ℤ, refl, sym, subst, ◌∙◌, arith, length-append}
use Rattle.std.proofs.lemmas.Bool.{or_right}
use Rattle.std.specs.Prelude.{slice_index_or, if◌then◌else◌, Option, None, Some}
use Rattle.plc_types.specs.declared.range.Range.{Range}
use Rattle.program_tree.specs.declared.typed.StepCells.{StepCells}
use Rattle.program_tree.specs.declared.typed.Association.{Association}
use Rattle.program_tree.specs.Tree.{TransitionData, chart, Statements, Actions, no_actions, action}
use Rattle.program_tree.specs.declared.scratch.Scratch.{Scratch}
use Rattle.program_tree.specs.ChartPlaces.{latch_places, chart_places, AreRisingFrom, NameSteps}
use Rattle.meaning.specs.Values.{State, Callees, number_of}
use Rattle.meaning.specs.Charts.{Marking, is_on, marking_now, marking_before, latch_is_on, next_latch, runs}
use Rattle.meaning.specs.Effects.{range_at, stored, all_latched, effect_of_transitions, state_of, effect_of, effect_of_all, effect_of_actions}
use Rattle.meaning.specs.Frames.{FrameData}
use Rattle.scan_model.specs.InRange.{IsInRange}
use Rattle.flat_core.specs.FlatTree.{branch, no_flats}
use Rattle.flat_core.specs.FlatView.{flats_of}
use Rattle.flat_core.specs.FlatScans.{placed, run_of, run_of_all}
use Rattle.flat_form.specs.Owners.{OwnerData}
use Rattle.flat_form.specs.Bodies.{Bodies}
use Rattle.flat_form.specs.FlatCharts.{no_step, active_at, before_at, latch_test, latch_list, latch_start, runs_test, scratch_of_moves, flat_moves}
use Rattle.flat_form.specs.Unless.{without_flags}
use Rattle.flat_form.specs.FlatLists.{scratch_of, scratch_of_all, scratch_of_actions, flat_of, flat_of_all, flat_actions}
use Rattle.flat_form.specs.WellTyped.{extent_of_all, extent_of_bodies, AreFlags, AreTypedActions, IsTyped}
use Rattle.flat_laws.proofs.Shown.{held, Owns, Owns-later, Shows, Done, Done-stored, Stands}
use Rattle.scan_model.proofs.Keeping.{HoldsFault, kept_by_store, kept_by_latches, kept_by_all}
use Rattle.flat_laws.proofs.ActionRuns.{EachActionRuns}
use Rattle.flat_laws.proofs.Leaving.{all-leave}
use Rattle.flat_laws.proofs.ChartStores.{Done-both, Done-earlier, Done-none, stored-other, fits_bit, held_bit}
use Rattle.flat_laws.proofs.Sequences.{run-append, Stands-front, Stands-back}
use Rattle.flat_laws.proofs.ChartTests.{IsTest, IsTest-cell, IsTest-latch, IsTest-runs}
use Rattle.flat_laws.proofs.ChartMoves.{EachEvaluated, test_run, run_test, now-at, was-at, IsFlag, active_flag, before_flag, flag_value, done_moves}

-- ---- the places of a chart

-- the cells of the steps stand between two numbers, and the latches from the second on
record Split (low : ℕ) (steps : List StepCells) (latches : List ℕ) : Type 0 where
  bound : ℕ
  above : low ≤ bound
  rising : AreRisingFrom bound latches
  active_low : (i : ℕ) → i < length steps → low ≤ (slice_index_or steps i no_step).active
  before_low : (i : ℕ) → i < length steps → low ≤ (slice_index_or steps i no_step).before
  active_high : (i : ℕ) → i < length steps → (slice_index_or steps i no_step).active < bound
  before_high : (i : ℕ) → i < length steps → (slice_index_or steps i no_step).before < bound

split_rising : (steps : List StepCells) (acts : Actions) (low : ℕ) → AreRisingFrom low (chart_places steps acts) → Split low steps (latch_places acts)
split_rising [] acts low h = record {
  bound = low;
  above = omega arith;
  rising = h;
  active_low = λ i g. absurd (omega arith);
  before_low = λ i g. absurd (omega arith);
  active_high = λ i g. absurd (omega arith);
  before_high = λ i g. absurd (omega arith);
}
split_rising (p ∷ ps) acts low h = one_more low p ps (latch_places acts) h.0 h.1.0 (split_rising ps acts (p.before + 1) h.1.1)
  where
    one_more : (low : ℕ) (p : StepCells) (ps : List StepCells) (latches : List ℕ) → low ≤ p.active → p.active + 1 ≤ p.before → Split (p.before + 1) ps latches → Split low (p ∷ ps) latches
    one_more low p ps latches a b r = record {
      bound = r.bound;
      above = let c = r.above in omega arith;
      rising = r.rising;
      active_low = λ i g. active_from i g;
      before_low = λ i g. before_from i g;
      active_high = λ i g. active_below i g;
      before_high = λ i g. before_below i g;
    }
      where
        active_from : (i : ℕ) → i < suc (length ps) → low ≤ (slice_index_or (p ∷ ps) i no_step).active
        active_from zero g = a
        active_from (suc i) g = let c = r.active_low i (omega arith) in omega arith

        before_from : (i : ℕ) → i < suc (length ps) → low ≤ (slice_index_or (p ∷ ps) i no_step).before
        before_from zero g = omega arith
        before_from (suc i) g = let c = r.before_low i (omega arith) in omega arith

        active_below : (i : ℕ) → i < suc (length ps) → (slice_index_or (p ∷ ps) i no_step).active < r.bound
        active_below zero g = let c = r.above in omega arith
        active_below (suc i) g = r.active_high i (omega arith)

        before_below : (i : ℕ) → i < suc (length ps) → (slice_index_or (p ∷ ps) i no_step).before < r.bound
        before_below zero g = let c = r.above in omega arith
        before_below (suc i) g = r.before_high i (omega arith)

latch_flags : (own : List Range) (base : ℕ) (steps : List StepCells) (acts : Actions) → AreFlags own base (chart_places steps acts) → AreFlags own base (latch_places acts)
latch_flags own base [] acts fl = fl
latch_flags own base (p ∷ ps) acts fl = latch_flags own base ps acts fl.3.3

marking-same : (base : ℕ) (steps : List StepCells) (s z : State) → ((i : ℕ) → i < length steps → held z (base + (slice_index_or steps i no_step).active) ≡ held s (base + (slice_index_or steps i no_step).active)) → marking_now base steps z ≡ marking_now base steps s
marking-same base [] s z h = refl
marking-same base (p ∷ ps) s z h = rw (h 0 (omega arith), marking-same base ps s z (λ i g. h (suc i) (omega arith))) refl

-- in a state the cells of the steps hold two markings
record Known (base : ℕ) (steps : List StepCells) (xm lm : Marking) (s : State) : Type 0 where
  now : (i : ℕ) → i < length steps → held s (base + (slice_index_or steps i no_step).active) ≡ number_of (is_on xm i)
  was : (i : ℕ) → i < length steps → held s (base + (slice_index_or steps i no_step).before) ≡ number_of (is_on lm i)

-- ---- the latches

module _ (rs : List Range) (cs : List Scratch) (own : List Range) (tested : ℕ → Bool) (owner : OwnerData) (base : ℕ) (first : HoldsFault own) (steps : List StepCells) (xm lm : Marking)
    (flag_now : (i : ℕ) → i < length steps → IsFlag own (base + (slice_index_or steps i no_step).active)) (flag_was : (i : ℕ) → i < length steps → IsFlag own (base + (slice_index_or steps i no_step).before)) where
  now_tests : (f : ℤ) (s y : State) → Shows (length own) owner f s y → Known base steps xm lm s → (i : ℕ) → i < length steps → IsTest y (active_at owner base steps i) (is_on xm i)
  now_tests f s y shown known i h =
      let flag = flag_now i h in
      IsTest-cell y (owner (base + (slice_index_or steps i no_step).active)) (is_on xm i) (shown.cells (base + (slice_index_or steps i no_step).active) flag.above flag.below ∙ known.now i h)

  was_tests : (f : ℤ) (s y : State) → Shows (length own) owner f s y → Known base steps xm lm s → (i : ℕ) → i < length steps → IsTest y (before_at owner base steps i) (is_on lm i)
  was_tests f s y shown known i h =
      let flag = flag_was i h in
      IsTest-cell y (owner (base + (slice_index_or steps i no_step).before)) (is_on lm i) (shown.cells (base + (slice_index_or steps i no_step).before) flag.above flag.below ∙ known.was i h)

  module _ (k : ℕ) (f : ℤ) (o : Owns rs cs own tested owner k) (frames : ℕ → FrameData) (MayCall MayRun : ℕ → ℕ → Type 0) (extents : ℕ → ℕ) where
    latches : (actions : Actions) (bound : ℕ) (s x y : State) → AreFlags own base (latch_places actions) → AreRisingFrom bound (latch_places actions)
        → ((i : ℕ) → i < length steps → (slice_index_or steps i no_step).active < bound) → ((i : ℕ) → i < length steps → (slice_index_or steps i no_step).before < bound)
        → AreTypedActions frames MayCall MayRun extents own tested base (length steps) actions → IsInRange own s → Known base steps xm lm s → k ≤ length y → Done (length own) k owner f s x y
        → Done (length own) k owner f (all_latched own base xm actions s) x (run_of_all rs cs (flats_of (latch_list owner base steps actions)) y) × Known base steps xm lm (all_latched own base xm actions s)
    latches no_actions bound s x y fl rising now_below was_below typed within known room done = (done, known)
    latches (action None links ss rest) bound s x y fl rising now_below was_below typed within known room done = latches rest bound s x y fl rising now_below was_below typed.3 within known room done
    latches (action (Some place) links ss rest) bound s x y fl rising now_below was_below typed within known room done =
        let n = length own in
        let c = base + place in
        let low = rising.0 in
        let b = next_latch base xm (Some place) links s in
        let own_test = IsTest-cell y (owner c) (is_on s c) (done.shown.cells c fl.0.0 fl.0.1 ∙ held_bit own s c within fl.0.1 fl.1 fl.2) in
        let test = IsTest-latch owner base steps y xm (now_tests f s y done.shown known) place s links typed.1 own_test in
        let one = run_test rs cs (owner c) (latch_test owner base steps place links) y b test in
        let y1 = placed rs cs (owner c) (number_of b) y in
        let s1 = stored own c (number_of b) s in
        let step : Done n k owner f s1 y y1 = Done-stored rs cs own tested owner k f c (number_of b) s y o fl.0.0 fl.0.1 room (or_right (tested c) _ (fits_bit b (range_at own c) fl.1 fl.2)) done.shown in
        let long = step.ran.long in
        let known_one : Known base steps xm lm s1 = record {
          now = λ i h. let flag = flag_now i h in let less = now_below i h in stored-other own c (number_of b) s (base + (slice_index_or steps i no_step).active) flag.above (omega arith) ∙ known.now i h;
          was = λ i h. let flag = flag_was i h in let less = was_below i h in stored-other own c (number_of b) s (base + (slice_index_or steps i no_step).before) flag.above (omega arith) ∙ known.was i h;
        } in
        rw one (latches rest (place + 1) s1 x y1 fl.3 rising.1 (λ i h. let less = now_below i h in omega arith) (λ i h. let less = was_below i h in omega arith) typed.3 (kept_by_store own first c (number_of b) s within) known_one (omega arith)
        (Done-both n k owner f s s1 x y y1 done.ran step))

-- ---- the actions

module _ (rs : List Range) (cs : List Scratch) (bodies : Bodies) (MayCall MayRun : ℕ → ℕ → Type 0) (extents : ℕ → ℕ) (callees : Callees) (own : List Range) (tested : ℕ → Bool) (owner : OwnerData) (base : ℕ)
    (runs_leave : (b base p : ℕ) (s : State) → base + extents b ≤ p → 0 < p → held (callees.runs b own base s) p ≡ held s p)
    (keeps : (b base : ℕ) (s : State) → IsInRange own s → IsInRange own (callees.runs b own base s)) (first : HoldsFault own) (some : 0 < length rs) where
  module _ (steps : List StepCells) (xm lm : Marking)
      (flag_now : (i : ℕ) → i < length steps → IsFlag own (base + (slice_index_or steps i no_step).active)) (flag_was : (i : ℕ) → i < length steps → IsFlag own (base + (slice_index_or steps i no_step).before))
      (k : ℕ) (f : ℤ) (o : Owns rs cs own tested owner k) (low : length rs ≤ k) where
    -- what is known of a store that shows a state of a chart between its actions
    record Acted (s x y : State) : Type 0 where
      done : Done (length own) k owner f s x y
      known : Known base steps xm lm s
      within : IsInRange own s

    acted_where : (b : Bool) (s t x y z : State) → Acted s x y → Acted t x z → Acted (if b then t else s) x (if b then z else y)
    acted_where true s t x y z p q = q
    acted_where false s t x y z p q = p

    acted_action : (latch : Option ℕ) (a : Association) (more : List Association) (ss : Statements) (j : ℕ) (s x y : State) → IsTest y (latch_start owner base latch) (latch_is_on base latch s) → NameSteps (length steps) (a ∷ more)
        → ((k : ℕ) (f : ℤ) (s x : State) → Owns rs cs own tested owner k → Shows (length own) owner f s x → IsInRange own s → length rs ≤ k → 0 < length rs
        → k + length (scratch_of_all bodies ss) ≤ length x → Stands rs cs k (scratch_of_all bodies ss)
        → Done (length own) k owner f (state_of (effect_of_all callees own base ss s)) x (run_of_all rs cs (flats_of (flat_of_all bodies owner base without_flags ss k)) x))
        → ((i : ℕ) → i < length steps → extent_of_all extents ss ≤ (slice_index_or steps i no_step).active) → ((i : ℕ) → i < length steps → extent_of_all extents ss ≤ (slice_index_or steps i no_step).before)
        → k ≤ j → j + length (scratch_of_all bodies ss) ≤ length x → Stands rs cs j (scratch_of_all bodies ss) → Acted s x y
        → Acted (if runs base xm lm latch (a ∷ more) s then state_of (effect_of_all callees own base ss s) else s) x
        (run_of rs cs (branch (runs_test owner base steps latch (a ∷ more)) (flats_of (flat_of_all bodies owner base without_flags ss j)) no_flats) y)
    acted_action latch a more ss j s x y start names each now_above was_above behind fits stands so_far =
        let n = length own in
        let b = runs base xm lm latch (a ∷ more) s in
        let shown = so_far.done.shown in
        let long = so_far.done.ran.long in
        let test = IsTest-runs owner base steps y xm (now_tests rs cs own tested owner base first steps xm lm flag_now flag_was f s y shown so_far.known) lm (was_tests rs cs own tested owner base first steps xm lm flag_now flag_was f s y shown so_far.known) latch s (a ∷ more) names start in
        let ran = test_run rs cs (runs_test owner base steps latch (a ∷ more)) (flats_of (flat_of_all bodies owner base without_flags ss j)) no_flats y b test in
        let z = run_of_all rs cs (flats_of (flat_of_all bodies owner base without_flags ss j)) y in
        let t = state_of (effect_of_all callees own base ss s) in
        let body : Done n j owner f t y z = each j f s y (Owns-later rs cs own tested owner k j behind o) shown so_far.within (omega arith) some (omega arith) stands in
        let acted : Acted t x z = record {
          done = Done-both n k owner f s t x y z so_far.done.ran (Done-earlier n k owner f j t y z behind body);
          known = record {
            now = λ i h. let flag = flag_now i h in let less = now_above i h in all-leave own (base + (slice_index_or steps i no_step).active) flag.above callees extents (λ b place h t. runs_leave b place (base + (slice_index_or steps i no_step).active) t h flag.above) base ss (omega arith) s ∙ so_far.known.now i h;
            was = λ i h. let flag = flag_was i h in let less = was_above i h in all-leave own (base + (slice_index_or steps i no_step).before) flag.above callees extents (λ b place h t. runs_leave b place (base + (slice_index_or steps i no_step).before) t h flag.above) base ss (omega arith) s ∙ so_far.known.was i h;
          };
          within = kept_by_all own first callees keeps base ss s so_far.within;
        } in
        subst (λ (q : State). Acted (if b then t else s) x q) (sym ran) (acted_where b s t x y z so_far acted)

    actions_run : (actions : Actions) (j : ℕ) (s x y : State) → AreFlags own base (latch_places actions) → EachActionRuns rs cs bodies callees own tested owner base actions
        → AreTypedActions bodies.frame MayCall MayRun extents own tested base (length steps) actions
        → ((i : ℕ) → i < length steps → extent_of_bodies extents actions ≤ (slice_index_or steps i no_step).active) → ((i : ℕ) → i < length steps → extent_of_bodies extents actions ≤ (slice_index_or steps i no_step).before)
        → k ≤ j → j + length (scratch_of_actions bodies actions) ≤ length x → Stands rs cs j (scratch_of_actions bodies actions) → Acted s x y
        → Acted (effect_of_actions callees own base xm lm actions s) x (run_of_all rs cs (flats_of (flat_actions bodies owner base steps actions j)) y)
    actions_run no_actions j s x y fl each typed now_above was_above behind fits stands so_far = so_far
    actions_run (action None [] ss rest) j s x y fl each typed now_above was_above behind fits stands so_far =
        let there : j + 0 ≡ j = omega arith in
        rw there (actions_run rest j s x y fl each.1 typed.3 (λ i h. let less = now_above i h in omega arith) (λ i h. let less = was_above i h in omega arith) behind fits stands so_far)
    actions_run (action (Some place) [] ss rest) j s x y fl each typed now_above was_above behind fits stands so_far = absurd typed.0
    actions_run (action None (a ∷ more) ss rest) j s x y fl each typed now_above was_above behind fits stands so_far =
        let made = scratch_of_all bodies ss in
        let others = scratch_of_actions bodies rest in
        let parts = length-append made others in
        let one = acted_action None a more ss j s x y (record { value = refl; fault = refl }) typed.1 each.0 (λ i h. let less = now_above i h in omega arith) (λ i h. let less = was_above i h in omega arith) behind (omega arith) (Stands-front rs cs j made others stands) so_far in
        actions_run rest (j + length made) _ x _ fl each.1 typed.3 (λ i h. let less = now_above i h in omega arith) (λ i h. let less = was_above i h in omega arith) (omega arith) (omega arith) (Stands-back rs cs j made others stands) one
    actions_run (action (Some place) (a ∷ more) ss rest) j s x y fl each typed now_above was_above behind fits stands so_far =
        let made = scratch_of_all bodies ss in
        let others = scratch_of_actions bodies rest in
        let parts = length-append made others in
        let c = base + place in
        let start = IsTest-cell y (owner c) (is_on s c) (so_far.done.shown.cells c fl.0.0 fl.0.1 ∙ held_bit own s c so_far.within fl.0.1 fl.1 fl.2) in
        let one = acted_action (Some place) a more ss j s x y start typed.1 each.0 (λ i h. let less = now_above i h in omega arith) (λ i h. let less = was_above i h in omega arith) behind (omega arith) (Stands-front rs cs j made others stands) so_far in
        actions_run rest (j + length made) _ x _ fl.3 each.1 typed.3 (λ i h. let less = now_above i h in omega arith) (λ i h. let less = was_above i h in omega arith) (omega arith) (omega arith) (Stands-back rs cs j made others stands) one

  -- ---- the whole

  chart_done : EachEvaluated rs cs bodies MayCall callees own tested owner → 0 < length own → (steps : List StepCells) (actions : Actions) (ts : List TransitionData) → IsTyped bodies.frame MayCall MayRun extents own tested base (chart steps actions ts)
      → EachActionRuns rs cs bodies callees own tested owner base actions → (k : ℕ) (f : ℤ) (s x : State) → Owns rs cs own tested owner k → Shows (length own) owner f s x → IsInRange own s → length rs ≤ k
      → k + length (scratch_of bodies (chart steps actions ts)) ≤ length x → Stands rs cs k (scratch_of bodies (chart steps actions ts))
      → Done (length own) k owner f (state_of (effect_of callees own base (chart steps actions ts) s)) x (run_of_all rs cs (flats_of (flat_of bodies owner base without_flags (chart steps actions ts) k)) x)
  chart_done evaluated cells steps actions ts typed each k f s x o shown within low fits stands =
      let n = length own in
      let bound = extent_of_bodies extents actions in
      let made = scratch_of_actions bodies actions in
      let moving = scratch_of_moves bodies steps ts in
      let parts = length-append made moving in
      let j = k + length made in
      let xm = marking_now base steps s in
      let lm = marking_before base steps s in
      let split = split_rising steps actions bound typed.1 in
      let flag_now = λ (i : ℕ) (h : i < length steps). active_flag own base actions steps i typed.0 h in
      let flag_was = λ (i : ℕ) (h : i < length steps). before_flag own base actions steps i typed.0 h in
      let of_latches = latch_flags own base steps actions typed.0 in
      let known : Known base steps xm lm s = record {
        now = λ i h. flag_value own s (base + (slice_index_or steps i no_step).active) xm i within (flag_now i h) (now-at base s steps i h);
        was = λ i h. flag_value own s (base + (slice_index_or steps i no_step).before) lm i within (flag_was i h) (was-at base s steps i h);
      } in
      let s1 = all_latched own base xm actions s in
      let x1 = run_of_all rs cs (flats_of (latch_list owner base steps actions)) x in
      let one : Done n k owner f s1 x x1 × Known base steps xm lm s1 =
      latches rs cs own tested owner base first steps xm lm flag_now flag_was k f o bodies.frame MayCall MayRun extents actions split.bound s x x of_latches split.rising split.active_high split.before_high typed.2 within known (omega arith) (Done-none n k owner f s x shown) in
      let s2 = effect_of_actions callees own base xm lm actions s1 in
      let x2 = run_of_all rs cs (flats_of (flat_actions bodies owner base steps actions k)) x1 in
      let so_far : Acted steps xm lm flag_now flag_was k f o low s1 x x1 = record { done = one.0; known = one.1; within = kept_by_latches own first base xm actions s within } in
      let two : Acted steps xm lm flag_now flag_was k f o low s2 x x2 =
      actions_run steps xm lm flag_now flag_was k f o low actions k s1 x x1 of_latches each typed.2 split.active_low split.before_low (omega arith) (omega arith) (Stands-front rs cs k made moving stands) so_far in
      let marking : marking_now base steps s2 ≡ xm = marking-same base steps s s2 (λ i h. two.known.now i h ∙ sym (known.now i h)) in
      let long = two.done.ran.long in
      let three = done_moves rs cs bodies MayCall MayRun extents callees own tested owner base evaluated first cells some steps actions ts bound j f s2 x2 xm typed.0 typed.1 typed.3 marking (Owns-later rs cs own tested owner k j (omega arith) o) two.done.shown two.within
      (omega arith) (omega arith) (Stands-back rs cs k made moving stands) in
      let s3 = effect_of_transitions callees own base xm steps ts s2 in
      let x3 = run_of_all rs cs (flats_of (flat_moves bodies owner base steps ts j)) x2 in
      let whole : Done n k owner f s3 x x3 = Done-both n k owner f s2 s3 x x2 x3 two.done.ran (Done-earlier n k owner f j s3 x2 x3 (omega arith) three) in
      let rest = flat_actions bodies owner base steps actions k ++ flat_moves bodies owner base steps ts j in
      let ran : run_of_all rs cs (flats_of (flat_of bodies owner base without_flags (chart steps actions ts) k)) x ≡ x3 = run-append rs cs (latch_list owner base steps actions) rest x ∙ run-append rs cs (flat_actions bodies owner base steps actions k) (flat_moves bodies owner base steps ts j) x1 in
      subst (λ (q : State). Done n k owner f s3 x q) (sym ran) whole

-- over an owner whose first cell is FAULT, and whose expressions are evaluated; a run of a block leaves values in range, and places above those that it sets
module _ (rs : List Range) (cs : List Scratch) (bodies : Bodies) (MayCall MayRun : ℕ → ℕ → Type 0) (extents : ℕ → ℕ) (callees : Callees) (own : List Range) (tested : ℕ → Bool) (owner : OwnerData)
    (evaluated : EachEvaluated rs cs bodies MayCall callees own tested owner) (runs_leave : (b base p : ℕ) (s : State) → base + extents b ≤ p → 0 < p → held (callees.runs b own base s) p ≡ held s p)
    (keeps : (b base : ℕ) (s : State) → IsInRange own s → IsInRange own (callees.runs b own base s)) (first : HoldsFault own) (cells : 0 < length own) where
  pub done_chart : (base : ℕ) (steps : List StepCells) (actions : Actions) (ts : List TransitionData) → IsTyped bodies.frame MayCall MayRun extents own tested base (chart steps actions ts) → EachActionRuns rs cs bodies callees own tested owner base actions
      → (k : ℕ) (f : ℤ) (s x : State) → Owns rs cs own tested owner k → Shows (length own) owner f s x → IsInRange own s → length rs ≤ k → 0 < length rs
      → k + length (scratch_of bodies (chart steps actions ts)) ≤ length x → Stands rs cs k (scratch_of bodies (chart steps actions ts))
      → Done (length own) k owner f (state_of (effect_of callees own base (chart steps actions ts) s)) x (run_of_all rs cs (flats_of (flat_of bodies owner base without_flags (chart steps actions ts) k)) x)
  done_chart base steps actions ts typed each k f s x o shown within low some fits stands =
      chart_done rs cs bodies MayCall MayRun extents callees own tested owner base runs_leave keeps first some evaluated cells steps actions ts typed each k f s x o shown within low fits stands

-- the same wherever the chart stands
pub charts_run : (rs : List Range) (cs : List Scratch) → 0 < length rs → (bodies : Bodies) (callees : Callees) (MayCall MayRun : ℕ → ℕ → Type 0) (extents : ℕ → ℕ) (own : List Range) (tested : ℕ → Bool) (owner : OwnerData) → HoldsFault own → 0 < length own
    → ((b base : ℕ) (s : State) → IsInRange own s → IsInRange own (callees.runs b own base s)) → ((b base : ℕ) (s : State) (p : ℕ) → 0 < p → base + extents b ≤ p → held (callees.runs b own base s) p ≡ held s p)
    → EachEvaluated rs cs bodies MayCall callees own tested owner
    → (base : ℕ) (steps : List StepCells) (actions : Actions) (ts : List TransitionData) → IsTyped bodies.frame MayCall MayRun extents own tested base (chart steps actions ts) → EachActionRuns rs cs bodies callees own tested owner base actions
    → (k : ℕ) (f : ℤ) (s x : State) → Owns rs cs own tested owner k → Shows (length own) owner f s x → IsInRange own s → length rs ≤ k → 0 < length rs
    → k + length (scratch_of bodies (chart steps actions ts)) ≤ length x → Stands rs cs k (scratch_of bodies (chart steps actions ts))
    → Done (length own) k owner f (state_of (effect_of callees own base (chart steps actions ts) s)) x (run_of_all rs cs (flats_of (flat_of bodies owner base without_flags (chart steps actions ts) k)) x)
charts_run rs cs some bodies callees MayCall MayRun extents own tested owner first cells keeps leaves evaluated base steps actions ts typed each k f s x o shown within low more fits stands =
    done_chart rs cs bodies MayCall MayRun extents callees own tested owner evaluated (λ b place p t far above. leaves b place t p above far) keeps first cells base steps actions ts typed each k f s x o shown within low some fits stands
