-- The flat list of statements shows what they do.
use Rattle.std.proofs.Common.{◌≡◌, ℕ, suc, ◌+◌, ◌-◌, ◌<◌, ◌≤◌, Bool, true, false, ◌||◌, List, [], ◌∷◌, ◌++◌, length, ℤ, pos, refl, sym, ap, subst, ◌∙◌, arith, length-append}
use Rattle.std.specs.Prelude.{slice_set, slice_index_or, if◌then◌else◌}
use Rattle.std.proofs.lemmas.List.{length-set, get_or-set_same, get_or-set_other}
use Rattle.plc_types.specs.declared.range.Range.{Range}
use Rattle.plc_types.specs.Types.{in_range}
use Rattle.meaning.specs.Values.{State, Callees, no_callees, value_of, faults, is_truth}
use Rattle.meaning.specs.Effects.{Effect, on, exited, returned, state_of, range_at, with_fault, stored, is_labelled, effect_of, effect_of_all, effect_of_choices, effect_of_entries}
use Rattle.scan_model.specs.InRange.{IsInRange}
use Rattle.plc_types.specs.declared.elementary.Elementary.{Elementary}
use Rattle.program_tree.specs.Tree.{Expression, number, Statement, assign, call_block, choice, cases, repeat, chart, exit, return, own_body, Statements, no_statements, statement, Choices, no_choices, choose, Entries, no_entries, entry, Actions, no_actions, action}
use Rattle.program_tree.specs.declared.scratch.Scratch.{Scratch}
use Rattle.program_tree.specs.Places.{whole_cell}
use Rattle.program_tree.specs.Leaving.{can_exit, can_exit_all, can_exit_choices, can_exit_entries, can_exit_actions, can_return, can_return_all, can_return_choices, can_return_entries, can_return_actions, LeavesNothing}
use Rattle.flat_core.specs.FlatTree.{FlatStatement, set}
use Rattle.flat_core.specs.FlatView.{flats_of, nested}
use Rattle.flat_core.specs.FlatScans.{takes, placed, run_of_all}
use Rattle.flat_form.specs.Owners.{OwnerData}
use Rattle.flat_form.specs.Bodies.{Bodies}
use Rattle.flat_form.specs.Calls.{scratch_in, before, moved}
use Rattle.flat_form.specs.Unless.{Flags, without_flags, unless_left, flag_scratch, flag_start, turn_flags, body_flags}
use Rattle.flat_form.specs.FlatLists.{repeated, scratch_of, scratch_of_all, scratch_of_choices, scratch_of_entries, unrolled, flat_of, flat_of_all, flat_choices, flat_entries}
use Rattle.flat_form.specs.WellTyped.{IsTyped, AreTyped, AreTypedChoices, AreTypedEntries, AreTypedActions}
use Rattle.flat_laws.proofs.Shown.{held, Owns, Shows, Ran, Done, SameUpTo, Evaluated, Stands, BlockRuns, Owns-later, Ran-both, Ran-with_fault, Ran-scratch, Ran-kept, Shows-with_fault, Shows-scratch, Shows-kept, Done-stored}
use Rattle.flat_laws.proofs.Sequences.{run-append, Stands-front, Stands-back}
use Rattle.scan_model.proofs.Keeping.{HoldsFault, fault_added, kept_by_statement, kept_by_all}
use Rattle.flat_laws.proofs.LabelLemmas.{is_truth-number_of, labels_test-fault, labels_test-value}
use Rattle.flat_laws.proofs.TurnValues.{tested_fits}
use Rattle.flat_laws.proofs.Marks.{Mark, Marks, Marks-later, Marks-fewer, Marks-none, Clear, Clear-fewer, Clear-none, Clear-kept, Led, Led-none, Led-earlier, Led-behind, Led-done, Led-if, Led-wider, Done-led, told-on}
use Rattle.flat_laws.proofs.Guards.{unless-run, Led-followed}
use Rattle.flat_laws.proofs.Turning.{ended, turns_left, turns-ended, placed-behind, Stands-free, flag_cleared, turn_marks, body_marks, turn_clear, body_clear, turn_led, body_led, RunsUnder, done_turns}
use Rattle.flat_laws.proofs.ActionRuns.{EachActionRuns}
use Rattle.flat_form.proofs.Owed.{with_turns}
use Rattle.flat_laws.proofs.Claims.{ExpressionsRun, ExpressionsStay, ChartsRun, RunsKeep}

-- ---- one run after another

pub Ran-earlier : (n k j : ℕ) (place_at : ℕ → ℕ) (x y : State) → k ≤ j → Ran n j place_at x y → Ran n k place_at x y
Ran-earlier n k j place_at x y h r = record { long = r.long; same = λ p a b c. r.same p a (omega arith) c }

pub Done-earlier : (n k j : ℕ) (place_at : ℕ → ℕ) (f : ℤ) (s x y : State) → k ≤ j → Done n j place_at f s x y → Done n k place_at f s x y
Done-earlier n k j place_at f s x y h d = record { shown = d.shown; ran = Ran-earlier n k j place_at x y h d.ran }

-- a run from where another led
pub Done-both : (n k j : ℕ) (place_at : ℕ → ℕ) (f : ℤ) (s t x y z : State) → k ≤ j → Done n k place_at f s x y → Done n j place_at f t y z → Done n k place_at f t x z
Done-both n k j place_at f s t x y z h a b = record { shown = b.shown; ran = Ran-both n k place_at x y z a.ran (Ran-earlier n k j place_at y z h b.ran) }

-- ---- scratch cells one behind the other

module _ (rs : List Range) (cs : List Scratch) where
  pub Stands-tail : (k : ℕ) (c : Scratch) (b : List Scratch) → Stands rs cs k (c ∷ b) → Stands rs cs (k + 1) b
  Stands-tail k c b h i v low =
      let same : k + 1 + i - length rs ≡ k + suc i - length rs = omega arith in
      ap (λ n. takes cs n v) same ∙ h (suc i) v (omega arith)

-- ---- a fault of an expression, which its calls met or what is left of it meets

module _ (n : ℕ) (place_at : ℕ → ℕ) (above : (p : ℕ) → 0 < p → p < n → 0 < place_at p) (f : ℤ) (k : ℕ) (below : (p : ℕ) → 0 < p → p < n → place_at p < k) where
  pub Shows-faulted : (s x y : State) → 0 < n → SameUpTo k x y → held y 0 ≡ pos 1 → Shows n place_at f s x → Shows n place_at f (slice_set s 0 (pos 1)) y
  Shows-faulted s x y some kept fault is =
      let long = is.long in
      let set_now : held (slice_set s 0 (pos 1)) 0 ≡ pos 1 = get_or-set_same s 0 (pos 1) (pos 0) (omega arith) in
      record {
        long = length-set s 0 (pos 1) ∙ is.long;
        cells = λ p a b. kept (place_at p) (above p a b) (below p a b) ∙ is.cells p a b ∙ sym (get_or-set_other s 0 p (pos 1) (pos 0) (omega arith));
        fault = rw set_now fault;
      }

  pub Done-fault : (b c : Bool) (s x y : State) → 0 < n → 0 < length x → length y ≡ length x → SameUpTo k x y → held y 0 ≡ (if b then pos 1 else held x 0) → Shows n place_at f s x → Done n k place_at f (with_fault (b || c) s) x (with_fault c y)
  Done-fault false c s x y some room long kept fault is = record {
    shown = Shows-with_fault n place_at above f c s y some (omega arith) (Shows-kept n place_at above f k s x y below kept fault is);
    ran = Ran-both n k place_at x y (with_fault c y) (Ran-kept n k place_at x y long kept) (Ran-with_fault n k place_at c y);
  }
  Done-fault true false s x y some room long kept fault is = record { shown = Shows-faulted s x y some kept fault is; ran = Ran-kept n k place_at x y long kept }
  Done-fault true true s x y some room long kept fault is = record {
    shown = Shows-faulted s x (slice_set y 0 (pos 1)) some (λ p a b. get_or-set_other y 0 p (pos 1) (pos 0) (omega arith) ∙ kept p a b) (get_or-set_same y 0 (pos 1) (pos 0) (omega arith)) is;
    ran = Ran-both n k place_at x y (with_fault true y) (Ran-kept n k place_at x y long kept) (Ran-with_fault n k place_at true y);
  }

  pub Done-evaluated : (callees : Callees) (base : ℕ) (e left : Expression) (j : ℕ) (s x y : State) → 0 < n → 0 < length x → Evaluated callees base e left s k j x y → Shows n place_at f s x
      → Done n k place_at f (with_fault (faults callees base e s) s) x (with_fault (faults no_callees 0 left y) y)
  Done-evaluated callees base e left j s x y some room is shows =
      let fault : (is.faulted || faults no_callees 0 left y) ≡ faults callees base e s = is.faults y (λ p a b. refl) in
      subst (λ b. Done n k place_at f (with_fault b s) x (with_fault (faults no_callees 0 left y) y)) fault
      (Done-fault is.faulted (faults no_callees 0 left y) s x y some room is.long is.kept is.fault shows)

-- ---- statements

either_left : (a b : Bool) → a ≡ true → (a || b) ≡ true
either_left a b h = rw h refl

either_right : (a b : Bool) → b ≡ true → (a || b) ≡ true
either_right true b h = refl
either_right false b h = h

neither : (a b : Bool) → (a || b) ≡ false → (a ≡ false) × (b ≡ false)
neither false b h = (refl, h)
neither true b h = cc

module _ (rs : List Range) (cs : List Scratch) (own : List Range) (tested : ℕ → Bool) (owner : OwnerData) (first : HoldsFault own) (filled : 0 < length own) where
  -- a list, by the place from which its scratch cells are numbered, shows what is done to a state
  abbrev pub RunsAs : List Scratch → (State → State) → (ℕ → List FlatStatement) → Type 0
  RunsAs made effect list = (k : ℕ) (f : ℤ) (s x : State) → Owns rs cs own tested owner k → Shows (length own) owner f s x → IsInRange own s → length rs ≤ k → 0 < length rs → k + length made ≤ length x → Stands rs cs k made
      → Done (length own) k owner f (effect s) x (run_of_all rs cs (flats_of (list k)) x)

  -- the same of a list that may be left by an EXIT or by a RETURN, whatever its flags
  abbrev pub LeadsAs : Bool → Bool → List Scratch → (State → Effect) → (Flags → ℕ → List FlatStatement) → Type 0
  LeadsAs e r made effect list = (flags : Flags) → RunsUnder rs cs own tested owner e r flags made effect (list flags)

  -- what leaves nothing leads as it runs
  goes_on : (e r : Bool) (made : List Scratch) (effect : State → State) (list : ℕ → List FlatStatement) → RunsAs made effect list → LeadsAs e r made (λ s. on (effect s)) (λ flags. list)
  goes_on e r made effect list runs flags k f s x owns shows range le some room stands marks clear =
      Done-led rs cs some (length own) k owner e r flags marks f (effect s) x (run_of_all rs cs (flats_of (list k)) x) clear (runs k f s x owns shows range le some room stands)

  -- among others that may leave
  widened : (e r a b : Bool) (made : List Scratch) (effect : State → Effect) (list : Flags → ℕ → List FlatStatement) → (e ≡ true → a ≡ true) → (r ≡ true → b ≡ true) → LeadsAs e r made effect list → LeadsAs a b made effect list
  widened e r a b made effect list more_exits more_returns leads flags k f s x owns shows range le some room stands marks clear =
      Led-wider rs cs some (length own) k owner e r a b flags more_exits more_returns marks x clear f (effect s) (run_of_all rs cs (flats_of (list flags k)) x)
      (leads flags k f s x owns shows range le some room stands (Marks-fewer rs cs (length own) owner e r a b flags k more_exits more_returns marks) (Clear-fewer e r a b flags x more_exits more_returns clear))

  -- a flag that is set is none of the owner's places
  flag_set : (k : ℕ) (f : ℤ) (p : ℕ) (s x : State) → 0 < length rs → Mark rs cs (length own) owner k p → Owns rs cs own tested owner k → Shows (length own) owner f s x → Shows (length own) owner f s (slice_set x p (pos 1))
  flag_set k f p s x some mark owns shows = record {
    long = shows.long;
    cells = λ q a b. get_or-set_other x p (owner q) (pos 1) (pos 0) (λ is. mark.other q a b (sym is)) ∙ shows.cells q a b;
    fault = (let low = mark.low in get_or-set_other x p 0 (pos 1) (pos 0) (omega arith)) ∙ shows.fault;
  }

  done_exit : LeadsAs true false [] exited (λ flags k. set flags.exit (number (pos 1)) ∷ [])
  done_exit flags k f s x owns shows range le some room stands marks clear =
      let n = length own in
      let mark = marks.exits refl in
      let p = flags.exit in
      let high = mark.high in
      let y = slice_set x p (pos 1) in
      let is : placed rs cs p (pos 1) x ≡ y = placed-behind rs cs p (pos 1) x mark.low (mark.free (pos 1)) in
      let all : Led n k owner f true false flags (exited s) x y = record {
        shown = flag_set k f p s x some mark owns shows;
        long = length-set x p (pos 1);
        same = λ q low below apart not_exit not_return. get_or-set_other x p q (pos 1) (pos 0) (not_exit refl);
        tells = (refl, get_or-set_same x p (pos 1) (pos 0) (omega arith), λ h. cc);
      } in
      subst (λ z. Led n k owner f true false flags (exited s) x z) (sym is) all

  done_return : LeadsAs false true [] returned (λ flags k. set flags.returning (number (pos 1)) ∷ [])
  done_return flags k f s x owns shows range le some room stands marks clear =
      let n = length own in
      let mark = marks.returns refl in
      let p = flags.returning in
      let high = mark.high in
      let y = slice_set x p (pos 1) in
      let is : placed rs cs p (pos 1) x ≡ y = placed-behind rs cs p (pos 1) x mark.low (mark.free (pos 1)) in
      let all : Led n k owner f false true flags (returned s) x y = record {
        shown = flag_set k f p s x some mark owns shows;
        long = length-set x p (pos 1);
        same = λ q low below apart not_exit not_return. get_or-set_other x p q (pos 1) (pos 0) (not_return refl);
        tells = (refl, get_or-set_same x p (pos 1) (pos 0) (omega arith), λ h. cc);
      } in
      subst (λ z. Led n k owner f false true flags (returned s) x z) (sym is) all

  module _ (bodies : Bodies) (callees : Callees) (MayCall MayRun : ℕ → ℕ → Type 0) (extents : ℕ → ℕ)
      (calls : RunsKeep callees own) (evaluated : ExpressionsRun rs cs bodies callees MayCall own tested owner) (stays : ExpressionsStay bodies callees MayCall own)
      (each_run : (b base : ℕ) → MayRun b base → BlockRuns rs cs bodies callees own tested owner b base) where
    -- the state and the store behind an expression's calls, where its fault is added
    abbrev calls_ran : ℕ → Expression → ℕ → State → State
    calls_ran base e k x = run_of_all rs cs (flats_of (before bodies owner base e k)) x

    abbrev faulted_store : ℕ → Expression → ℕ → State → State
    faulted_store base e k x = with_fault (faults no_callees 0 (moved bodies owner base e k) (calls_ran base e k x)) (calls_ran base e k x)

    done_assign : (base target : ℕ) (e : Expression) → IsTyped bodies.frame MayCall MayRun extents own tested base (assign target e)
        → RunsAs (scratch_in bodies e) (λ s. state_of (effect_of callees own base (assign target e) s)) (flat_of bodies owner base without_flags (assign target e))
    done_assign base target e typed k f s x owns shows range le some room stands =
        let n = length own in
        let c = base + target in
        let left = moved bodies owner base e k in
        let y = calls_ran base e k x in
        let is = evaluated base e k f s x typed.1 owns shows range le room stands in
        let v = value_of callees base e s in
        let same : value_of no_callees 0 left y ≡ v = is.value y (λ p a b. refl) in
        let s1 = with_fault (faults callees base e s) s in
        let y1 = faulted_store base e k x in
        let begun : Done n k owner f s1 x y1 = Done-evaluated n owner owns.above f k owns.below callees base e left (k + length (scratch_in bodies e)) s x y filled (omega arith) is shows in
        let long = begun.ran.long in
        let fits : (tested c || in_range v (range_at own c)) ≡ true = tested_fits (tested c) _ _ typed.2 (λ h. stays base e (range_at own c) s h typed.1 range) in
        let ended = Done-stored rs cs own tested owner k f c v s1 y1 owns typed.0.0 typed.0.1 (omega arith) fits begun.shown in
        let all : Done n k owner f (stored own c v s1) x (placed rs cs (owner c) v y1) = Done-both n k k owner f s1 (stored own c v s1) x y1 _ (omega arith) begun ended in
        subst (λ z. Done n k owner f (stored own c v s1) x z) (sym (run-append rs cs (before bodies owner base e k) (set (owner c) left ∷ []) x))
        (subst (λ w. Done n k owner f (stored own c v s1) x (placed rs cs (owner c) w y1)) (sym same) all)

    -- a list that nothing leaves has no flags
    done_alone : (base : ℕ) (ts : Statements) → LeadsAs (can_exit_all ts) (can_return_all ts) (scratch_of_all bodies ts) (effect_of_all callees own base ts) (λ flags. flat_of_all bodies owner base flags ts) → LeavesNothing ts
        → RunsAs (scratch_of_all bodies ts) (λ s. state_of (effect_of_all callees own base ts s)) (flat_of_all bodies owner base without_flags ts)
    done_alone base ts leads alone k f s x owns shows range le some room stands =
        let n = length own in
        let e = can_exit_all ts in
        let r = can_return_all ts in
        Led-done n k owner f e r without_flags (effect_of_all callees own base ts s) x (run_of_all rs cs (flats_of (flat_of_all bodies owner base without_flags ts k)) x) alone.0 alone.1
        (leads without_flags k f s x owns shows range le some room stands (Marks-none rs cs n owner e r without_flags k alone.0 alone.1) (Clear-none e r without_flags x alone.0 alone.1))

    module _ (done_chart : ChartsRun rs cs bodies callees MayCall MayRun extents own tested owner) where
      mutual
        pub done_statement : (base : ℕ) (t : Statement) → IsTyped bodies.frame MayCall MayRun extents own tested base t → LeadsAs (can_exit t) (can_return t) (scratch_of bodies t) (effect_of callees own base t) (λ flags. flat_of bodies owner base flags t)
        done_statement base (assign target e) typed flags k f s x owns shows range le some room stands marks clear =
            goes_on false false (scratch_in bodies e) (λ t. state_of (effect_of callees own base (assign target e) t)) (flat_of bodies owner base without_flags (assign target e)) (done_assign base target e typed) flags k f s x owns shows range le some room stands marks clear
        done_statement base (call_block b offset) typed flags k f s x owns shows range le some room stands marks clear =
            Done-led rs cs some (length own) k owner false false flags marks f (callees.runs b own (base + offset) s) x (run_of_all rs cs (flats_of (bodies.run_list owner b (base + offset) k)) x) clear (each_run b (base + offset) typed.1 k f s x owns shows range le room stands)
        done_statement base (choice arms other) typed flags k f s x owns shows range le some room stands marks clear =
            let made = scratch_of_choices bodies arms in
            let last = scratch_of_all bodies other in
            let parts = length-append made last in
            let m = k + length made in
            let e = can_exit (choice arms other) in
            let r = can_return (choice arms other) in
            let list = flat_of_all bodies owner base flags other m in
            let otherwise : (t y : State) → Shows (length own) owner f t y → IsInRange own t → length y ≡ length x → Clear e r flags y → Led (length own) m owner f e r flags (effect_of_all callees own base other t) y (run_of_all rs cs (flats_of list) y)
            = λ t y shown in_range_now long clear_now.
            widened (can_exit_all other) (can_return_all other) e r last (effect_of_all callees own base other) (λ fs. flat_of_all bodies owner base fs other) (either_right (can_exit_choices arms) (can_exit_all other)) (either_right (can_return_choices arms) (can_return_all other))
            (done_each base other typed.1) flags m f t y (Owns-later rs cs own tested owner k m (omega arith) owns) shown in_range_now (omega arith) some (omega arith) (Stands-back rs cs k made last stands) (Marks-later rs cs (length own) owner e r flags k m (omega arith) marks) clear_now in
            done_choices base arms typed.0 e r (either_left (can_exit_choices arms) (can_exit_all other)) (either_left (can_return_choices arms) (can_return_all other)) flags k f s x owns shows range le some (omega arith) (Stands-front rs cs k made last stands) marks clear m list (effect_of_all callees own base other) (omega arith) otherwise
        done_statement base (cases kind e es other) typed flags k f s x owns shows range le some room stands marks clear =
            let n = length own in
            let may_exit = can_exit (cases kind e es other) in
            let may_return = can_return (cases kind e es other) in
            let left = moved bodies owner base e k in
            let j = k + length (scratch_in bodies e) in
            let made = scratch_of_entries bodies es in
            let last = scratch_of_all bodies other in
            let m = j + 1 + length made in
            let whole = length-append (scratch_in bodies e) (whole_cell kind ∷ (made ++ last)) in
            let parts = length-append made last in
            let y = calls_ran base e k x in
            let is = evaluated base e k f s x typed.0 owns shows range le (omega arith) (Stands-front rs cs k (scratch_in bodies e) (whole_cell kind ∷ (made ++ last)) stands) in
            let v = value_of callees base e s in
            let same : value_of no_callees 0 left y ≡ v = is.value y (λ p a b. refl) in
            let s1 = with_fault (faults callees base e s) s in
            let y1 = faulted_store base e k x in
            let begun : Done n k owner f s1 x y1 = Done-evaluated n owner owns.above f k owns.below callees base e left j s x y filled (omega arith) is shows in
            let long = begun.ran.long in
            let range1 = fault_added own first (faults callees base e s) s range in
            let z = slice_set y1 j v in
            let z_long = length-set y1 j v in
            let held_now : held z j ≡ v = get_or-set_same y1 j v (pos 0) (omega arith) in
            let shown : Shows n owner f s1 z = Shows-scratch n owner owns.above f k s1 y1 j v owns.below (omega arith) (omega arith) begun.shown in
            let kept : Done n k owner f s1 x z = record { shown = shown; ran = Ran-both n k owner x y1 z begun.ran (Ran-scratch n k owner y1 j v (omega arith)) } in
            let clear_z = Clear-kept rs cs some n k owner may_exit may_return flags marks x z clear kept.ran in
            let stands_here = Stands-back rs cs k (scratch_in bodies e) (whole_cell kind ∷ (made ++ last)) stands in
            let free : placed rs cs j v y1 ≡ z = placed-behind rs cs j v y1 (omega arith) (Stands-free rs cs j (whole_cell kind) (made ++ last) v refl stands_here) in
            let stands_after = Stands-tail rs cs j (whole_cell kind) (made ++ last) stands_here in
            let owns_after = Owns-later rs cs own tested owner k (j + 1) (omega arith) owns in
            let list = flat_of_all bodies owner base flags other m in
            let rest = nested (flat_entries bodies owner base flags kind j es (j + 1)) list in
            let behind = widened (can_exit_all other) (can_return_all other) may_exit may_return last (effect_of_all callees own base other) (λ fs. flat_of_all bodies owner base fs other) (either_right (can_exit_entries es) (can_exit_all other)) (either_right (can_return_entries es) (can_return_all other))
            (done_each base other typed.2) flags m f s1 z (Owns-later rs cs own tested owner k m (omega arith) owns) shown range1 (omega arith) some (omega arith) (Stands-back rs cs (j + 1) made last stands_after) (Marks-later rs cs n owner may_exit may_return flags k m (omega arith) marks) clear_z in
            let ended = done_entries base v kind j es typed.1 may_exit may_return (either_left (can_exit_entries es) (can_exit_all other)) (either_left (can_return_entries es) (can_return_all other)) flags (j + 1) f s1 z owns_after shown range1 (omega arith) some (omega arith) (Stands-front rs cs (j + 1) made last stands_after)
            (Marks-later rs cs n owner may_exit may_return flags k (j + 1) (omega arith) marks) clear_z held_now m list (effect_of_all callees own base other) (omega arith) behind in
            let answer = effect_of_entries callees own base v es (effect_of_all callees own base other) s1 in
            let all : Led n k owner f may_exit may_return flags answer x (run_of_all rs cs (flats_of rest) z)
            = Led-behind n k owner f may_exit may_return flags s1 answer x z _ kept (Led-earlier n k owner f may_exit may_return flags (j + 1) answer z _ (omega arith) ended) in
            subst (λ u. Led n k owner f may_exit may_return flags answer x u) (sym (run-append rs cs (before bodies owner base e k) (set j left ∷ rest) x))
            (subst (λ w. Led n k owner f may_exit may_return flags answer x (run_of_all rs cs (flats_of rest) (placed rs cs j w y1))) (sym same)
            (subst (λ u. Led n k owner f may_exit may_return flags answer x (run_of_all rs cs (flats_of rest) u)) (sym free) all))
        done_statement base (repeat turns body) typed flags k f s x owns shows range le some room stands marks clear =
            let n = length own in
            let e = can_exit_all body in
            let r = can_return_all body in
            let inner = turn_flags e flags k in
            let made = scratch_of_all bodies body in
            let flag = flag_scratch e in
            let c = base + turns.control in
            let effect = effect_of_all callees own base body in
            let parts = length-append flag (repeated turns.count made) in
            let j = k + length flag in
            let list = unrolled (unless_left e r inner) turns.count (owner c) turns.first turns.step (length made) (flat_of_all bodies owner base inner body) j in
            let x1 = run_of_all rs cs (flats_of (flag_start e k)) x in
            let begun = flag_cleared rs cs own tested owner k f e (repeated turns.count made) s x owns shows le some room stands in
            let long = begun.done.ran.long in
            let clear1 = Clear-kept rs cs some n k owner false r flags marks x x1 clear begun.done.ran in
            let marks_in = turn_marks rs cs n k owner flags e r begun.mark marks in
            let start = Led-none n j owner f e r inner s x1 begun.done.shown (turn_clear k flags e r x1 begun.clear clear1) in
            let turned = done_turns rs cs own tested owner first e r inner j f (Owns-later rs cs own tested owner k j (omega arith) owns) marks_in (omega arith) some c turns.step made (flat_of_all bodies owner base inner body) effect typed.0 (λ t h. kept_by_all own first callees calls base body t h)
            turns.count turns.first typed.1 (λ some_turn. done_each base body (with_turns turns.count (AreTyped bodies.frame MayCall MayRun extents own tested base body) typed.2 some_turn) inner)
            j (on s) x1 x1 (omega arith) range (omega arith) (Stands-back rs cs k flag (repeated turns.count made) stands) start in
            let z = run_of_all rs cs (flats_of list) x1 in
            let whole = turns_left own turns.count c turns.first turns.step effect s in
            let all : Led n k owner f false r flags (ended whole) x z = Led-behind n k owner f false r flags s (ended whole) x x1 z begun.done (turn_led k flags n owner f e r whole x1 z turned) in
            subst (λ w. Led n k owner f false r flags (effect_of callees own base (repeat turns body) s) x w) (sym (run-append rs cs (flag_start e k) list x))
            (subst (λ w. Led n k owner f false r flags w x z) (sym (turns-ended own turns.count c turns.first turns.step effect s)) all)
        done_statement base (chart steps actions ts) typed flags k f s x owns shows range le some room stands marks clear =
            Done-led rs cs some (length own) k owner (can_exit_actions actions) (can_return_actions actions) flags marks f (state_of (effect_of callees own base (chart steps actions ts) s)) x (run_of_all rs cs (flats_of (flat_of bodies owner base without_flags (chart steps actions ts) k)) x) clear
            (done_chart base steps actions ts typed (each_action_runs base (length steps) actions typed.2 typed.4.0 typed.4.1) k f s x owns shows range le some room stands)
        done_statement base exit typed flags k f s x owns shows range le some room stands marks clear = done_exit flags k f s x owns shows range le some room stands marks clear
        done_statement base return typed flags k f s x owns shows range le some room stands marks clear = done_return flags k f s x owns shows range le some room stands marks clear
        done_statement base (own_body ss) typed flags k f s x owns shows range le some room stands marks clear =
            let n = length own in
            let e = can_exit_all ss in
            let r = can_return_all ss in
            let inner = body_flags r flags k in
            let made = scratch_of_all bodies ss in
            let flag = flag_scratch r in
            let parts = length-append flag made in
            let j = k + length flag in
            let list = flat_of_all bodies owner base inner ss j in
            let x1 = run_of_all rs cs (flats_of (flag_start r k)) x in
            let begun = flag_cleared rs cs own tested owner k f r made s x owns shows le some room stands in
            let long = begun.done.ran.long in
            let clear1 = Clear-kept rs cs some n k owner e false flags marks x x1 clear begun.done.ran in
            let ran = done_each base ss typed inner j f s x1 (Owns-later rs cs own tested owner k j (omega arith) owns) begun.done.shown range (omega arith) some (omega arith) (Stands-back rs cs k flag made stands)
            (body_marks rs cs n k owner flags e r begun.mark marks) (body_clear k flags e r x1 begun.clear clear1) in
            let effect = effect_of_all callees own base ss s in
            let z = run_of_all rs cs (flats_of list) x1 in
            subst (λ w. Led n k owner f e false flags (effect_of callees own base (own_body ss) s) x w) (sym (run-append rs cs (flag_start r k) list x))
            (Led-behind n k owner f e false flags s (effect_of callees own base (own_body ss) s) x x1 z begun.done (body_led k flags n owner f e r effect x1 z ran))

        pub done_each : (base : ℕ) (ts : Statements) → AreTyped bodies.frame MayCall MayRun extents own tested base ts → LeadsAs (can_exit_all ts) (can_return_all ts) (scratch_of_all bodies ts) (effect_of_all callees own base ts) (λ flags. flat_of_all bodies owner base flags ts)
        done_each base no_statements typed flags k f s x owns shows range le some room stands marks clear = Led-none (length own) k owner f false false flags s x shows clear
        done_each base (statement t ts) typed flags k f s x owns shows range le some room stands marks clear =
            let n = length own in
            let e = can_exit_all (statement t ts) in
            let r = can_return_all (statement t ts) in
            let made = scratch_of bodies t in
            let later = scratch_of_all bodies ts in
            let parts = length-append made later in
            let m = k + length made in
            let y = run_of_all rs cs (flats_of (flat_of bodies owner base flags t k)) x in
            let effect = effect_of callees own base t s in
            let next = effect_of_all callees own base ts in
            let exits_more = either_left (can_exit t) (can_exit_all ts) in
            let returns_more = either_left (can_return t) (can_return_all ts) in
            let one = done_statement base t typed.0 flags k f s x owns shows range le some (omega arith) (Stands-front rs cs k made later stands)
            (Marks-fewer rs cs n owner (can_exit t) (can_return t) e r flags k exits_more returns_more marks) (Clear-fewer (can_exit t) (can_return t) e r flags x exits_more returns_more clear) in
            let long = one.long in
            let wide : Led n k owner f e r flags effect x y = Led-wider rs cs some n k owner (can_exit t) (can_return t) e r flags exits_more returns_more marks x clear f effect y one in
            let list = flat_of_all bodies owner base flags ts m in
            let z = run_of_all rs cs (flats_of list) y in
            let range1 : IsInRange own (state_of effect) = kept_by_statement own first callees calls base t s range in
            let all = Led-followed n k owner f e r flags effect next x y z wide
            (λ is. Led-earlier n k owner f e r flags m (next (state_of effect)) y z (omega arith)
            (widened (can_exit_all ts) (can_return_all ts) e r later next (λ fs. flat_of_all bodies owner base fs ts) (either_right (can_exit t) (can_exit_all ts)) (either_right (can_return t) (can_return_all ts)) (done_each base ts typed.1)
            flags m f (state_of effect) y (Owns-later rs cs own tested owner k m (omega arith) owns) one.shown range1 (omega arith) some (omega arith) (Stands-back rs cs k made later stands) (Marks-later rs cs n owner e r flags k m (omega arith) marks)
            (told-on n k owner f e r flags effect y is wide.tells))) in
            let ran_so = run-append rs cs (flat_of bodies owner base flags t k) (unless_left (can_exit t) (can_return t) flags list) x ∙ unless-run rs cs (can_exit t) (can_return t) flags effect list y one.tells in
            subst (λ w. Led n k owner f e r flags (effect_of_all callees own base (statement t ts) s) x w) (sym ran_so) all

        -- behind the conditions stands what else runs, whose scratch cells begin at m
        done_choices : (base : ℕ) (arms : Choices) → AreTypedChoices bodies.frame MayCall MayRun extents own tested base arms → (e r : Bool) → (can_exit_choices arms ≡ true → e ≡ true) → (can_return_choices arms ≡ true → r ≡ true)
            → (flags : Flags) (k : ℕ) (f : ℤ) (s x : State) → Owns rs cs own tested owner k → Shows (length own) owner f s x → IsInRange own s → length rs ≤ k → 0 < length rs → k + length (scratch_of_choices bodies arms) ≤ length x → Stands rs cs k (scratch_of_choices bodies arms)
            → Marks rs cs (length own) owner e r flags k → Clear e r flags x → (m : ℕ) (rest : List FlatStatement) (other : State → Effect) → k + length (scratch_of_choices bodies arms) ≤ m
            → ((t y : State) → Shows (length own) owner f t y → IsInRange own t → length y ≡ length x → Clear e r flags y → Led (length own) m owner f e r flags (other t) y (run_of_all rs cs (flats_of rest) y))
            → Led (length own) k owner f e r flags (effect_of_choices callees own base arms other s) x (run_of_all rs cs (flats_of (nested (flat_choices bodies owner base flags arms k) rest)) x)
        done_choices base no_choices typed e r exits_more returns_more flags k f s x owns shows range le some room stands marks clear m rest other far behind =
            Led-earlier (length own) k owner f e r flags m (other s) x _ (omega arith) (behind s x shows range refl clear)
        done_choices base (choose condition ss arms) typed e r exits_more returns_more flags k f s x owns shows range le some room stands marks clear m rest other far behind =
            let n = length own in
            let left = moved bodies owner base condition k in
            let j = k + length (scratch_in bodies condition) in
            let made = scratch_of_all bodies ss in
            let later = scratch_of_choices bodies arms in
            let i = j + length made in
            let whole = length-append (scratch_in bodies condition) (made ++ later) in
            let parts = length-append made later in
            let y = calls_ran base condition k x in
            let is = evaluated base condition k f s x typed.0 owns shows range le (omega arith) (Stands-front rs cs k (scratch_in bodies condition) (made ++ later) stands) in
            let same : value_of no_callees 0 left y ≡ value_of callees base condition s = is.value y (λ p a b. refl) in
            let s1 = with_fault (faults callees base condition s) s in
            let y1 = faulted_store base condition k x in
            let begun : Done n k owner f s1 x y1 = Done-evaluated n owner owns.above f k owns.below callees base condition left j s x y filled (omega arith) is shows in
            let long = begun.ran.long in
            let range1 = fault_added own first (faults callees base condition s) s range in
            let clear1 = Clear-kept rs cs some n k owner e r flags marks x y1 clear begun.ran in
            let stands_here = Stands-back rs cs k (scratch_in bodies condition) (made ++ later) stands in
            let here_effect = effect_of_all callees own base ss s1 in
            let other_effect = effect_of_choices callees own base arms other s1 in
            let here_list = flat_of_all bodies owner base flags ss j in
            let other_list = nested (flat_choices bodies owner base flags arms i) rest in
            let here = widened (can_exit_all ss) (can_return_all ss) e r made (effect_of_all callees own base ss) (λ fs. flat_of_all bodies owner base fs ss) (λ h. exits_more (either_left (can_exit_all ss) (can_exit_choices arms) h)) (λ h. returns_more (either_left (can_return_all ss) (can_return_choices arms) h)) (done_each base ss typed.1)
            flags j f s1 y1 (Owns-later rs cs own tested owner k j (omega arith) owns) begun.shown range1 (omega arith) some (omega arith) (Stands-front rs cs j made later stands_here) (Marks-later rs cs n owner e r flags k j (omega arith) marks) clear1 in
            let others = done_choices base arms typed.2 e r (λ h. exits_more (either_right (can_exit_all ss) (can_exit_choices arms) h)) (λ h. returns_more (either_right (can_return_all ss) (can_return_choices arms) h))
            flags i f s1 y1 (Owns-later rs cs own tested owner k i (omega arith) owns) begun.shown range1 (omega arith) some (omega arith) (Stands-back rs cs j made later stands_here) (Marks-later rs cs n owner e r flags k i (omega arith) marks) clear1 m rest other (omega arith)
            (λ t z shown now same_long clear_now. behind t z shown now (same_long ∙ long) clear_now) in
            let here_all = Led-behind n k owner f e r flags s1 here_effect x y1 _ begun (Led-earlier n k owner f e r flags j here_effect y1 _ (omega arith) here) in
            let others_all = Led-behind n k owner f e r flags s1 other_effect x y1 _ begun (Led-earlier n k owner f e r flags i other_effect y1 _ (omega arith) others) in
            let test = is_truth (value_of callees base condition s) in
            let both_ways = Led-if n k owner f e r flags test here_effect other_effect x _ _ here_all others_all in
            subst (λ z. Led n k owner f e r flags (effect_of_choices callees own base (choose condition ss arms) other s) x z) (sym (run-append rs cs (before bodies owner base condition k) _ x))
            (subst (λ v. Led n k owner f e r flags (effect_of_choices callees own base (choose condition ss arms) other s) x (if is_truth v then run_of_all rs cs (flats_of here_list) y1 else run_of_all rs cs (flats_of other_list) y1)) (sym same) both_ways)

        done_entries : (base : ℕ) (v : ℤ) (kind : Elementary) (t : ℕ) (es : Entries) → AreTypedEntries bodies.frame MayCall MayRun extents own tested base es → (e r : Bool) → (can_exit_entries es ≡ true → e ≡ true) → (can_return_entries es ≡ true → r ≡ true)
            → (flags : Flags) (k : ℕ) (f : ℤ) (s x : State) → Owns rs cs own tested owner k → Shows (length own) owner f s x → IsInRange own s → length rs ≤ k → 0 < length rs → k + length (scratch_of_entries bodies es) ≤ length x → Stands rs cs k (scratch_of_entries bodies es)
            → Marks rs cs (length own) owner e r flags k → Clear e r flags x → slice_index_or x t (pos 0) ≡ v → (m : ℕ) (rest : List FlatStatement) (other : State → Effect) → k + length (scratch_of_entries bodies es) ≤ m
            → Led (length own) m owner f e r flags (other s) x (run_of_all rs cs (flats_of rest) x)
            → Led (length own) k owner f e r flags (effect_of_entries callees own base v es other s) x (run_of_all rs cs (flats_of (nested (flat_entries bodies owner base flags kind t es k) rest)) x)
        done_entries base v kind t no_entries typed e r exits_more returns_more flags k f s x owns shows range le some room stands marks clear held_now m rest other far behind =
            Led-earlier (length own) k owner f e r flags m (other s) x _ (omega arith) behind
        done_entries base v kind t (entry labels ss es) typed e r exits_more returns_more flags k f s x owns shows range le some room stands marks clear held_now m rest other far behind =
            let n = length own in
            let made = scratch_of_all bodies ss in
            let later = scratch_of_entries bodies es in
            let parts = length-append made later in
            let i = k + length made in
            let here_effect = effect_of_all callees own base ss s in
            let other_effect = effect_of_entries callees own base v es other s in
            let here = widened (can_exit_all ss) (can_return_all ss) e r made (effect_of_all callees own base ss) (λ fs. flat_of_all bodies owner base fs ss) (λ h. exits_more (either_left (can_exit_all ss) (can_exit_entries es) h)) (λ h. returns_more (either_left (can_return_all ss) (can_return_entries es) h)) (done_each base ss typed.0)
            flags k f s x owns shows range le some (omega arith) (Stands-front rs cs k made later stands) marks clear in
            let others = done_entries base v kind t es typed.1 e r (λ h. exits_more (either_right (can_exit_all ss) (can_exit_entries es) h)) (λ h. returns_more (either_right (can_return_all ss) (can_return_entries es) h))
            flags i f s x (Owns-later rs cs own tested owner k i (omega arith) owns) shows range (omega arith) some (omega arith) (Stands-back rs cs k made later stands) (Marks-later rs cs n owner e r flags k i (omega arith) marks) clear held_now m rest other (omega arith) behind in
            let others_all = Led-earlier n k owner f e r flags i other_effect x _ (omega arith) others in
            rw (labels_test-value kind t x v held_now labels, labels_test-fault kind t x labels, is_truth-number_of (is_labelled v labels)) (Led-if n k owner f e r flags (is_labelled v labels) here_effect other_effect x _ _ here others_all)

        each_action_runs : (base steps : ℕ) (actions : Actions) → AreTypedActions bodies.frame MayCall MayRun extents own tested base steps actions → can_exit_actions actions ≡ false → can_return_actions actions ≡ false → EachActionRuns rs cs bodies callees own tested owner base actions
        each_action_runs base steps no_actions typed no_exit no_return = tt
        each_action_runs base steps (action latch [] ss rest) typed no_exit no_return =
            (tt, each_action_runs base steps rest typed.3 (neither (can_exit_all ss) (can_exit_actions rest) no_exit).1 (neither (can_return_all ss) (can_return_actions rest) no_return).1)
        each_action_runs base steps (action latch (a ∷ more) ss rest) typed no_exit no_return =
            let exits = neither (can_exit_all ss) (can_exit_actions rest) no_exit in
            let returns = neither (can_return_all ss) (can_return_actions rest) no_return in (
              done_alone base ss (done_each base ss typed.2) (exits.0, returns.0),
              each_action_runs base steps rest typed.3 exits.1 returns.1,
            )

      pub done_all : (base : ℕ) (ts : Statements) → LeavesNothing ts → AreTyped bodies.frame MayCall MayRun extents own tested base ts
          → RunsAs (scratch_of_all bodies ts) (λ s. state_of (effect_of_all callees own base ts s)) (flat_of_all bodies owner base without_flags ts)
      done_all base ts stays_in typed = done_alone base ts (done_each base ts typed) stays_in
