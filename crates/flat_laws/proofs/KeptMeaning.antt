-- What the bodies of POUs become shows what they do, and the flat form of a program leaves the cells that the program leaves.
use Rattle.std.proofs.Common.{◌≡◌, ℕ, zero, suc, ◌+◌, ◌-◌, ◌<◌, ◌≤◌, Bool, true, false, List, [], ◌∷◌, ◌++◌, length, map, ℤ, pos, refl, sym, ap, subst, ◌∙◌, take, ◌≤ℤ◌, arith, rules, tests, length-append}
use Rattle.std.specs.Prelude.{◌==◌, slice_set, slice_index_or, if◌then◌else◌, nat_lt}
use Rattle.std.proofs.lemmas.List.{length-map, length-set, get_or-set_same, get_or-set_other, get_or_append_left}
use Rattle.std.proofs.lemmas.Int.{ints}
use Rattle.plc_types.specs.declared.elementary.Elementary.TheVariants as types
use Rattle.plc_types.specs.declared.data_type.DataType.TheVariants.{Elementary}
use Rattle.program_tree.specs.declared.typed.Part.TheVariants as parts
use Rattle.plc_types.specs.declared.range.Range.{Range}
use Rattle.plc_types.specs.Types.{range_of, in_range}
use Rattle.program_tree.specs.Tree.{Statements, CellData, CalledData, block, function, ProgramData}
use Rattle.program_tree.specs.Leaving.{LeavesNothing}
use Rattle.program_tree.specs.declared.scratch.Scratch.{Scratch}
use Rattle.meaning.specs.Values.{State, Callees, is_truth}
use Rattle.meaning.specs.Effects.{range_at, stored, state_of, effect_of_all}
use Rattle.meaning.specs.Calls.{given, nothing, run_of as effect_of_run, ends_of, callees_of}
use Rattle.meaning.specs.Frames.{FrameData, frame_of, frames_of, function_body}
use Rattle.scan_model.specs.Scans.{ranges_of, callees_in, scanned}
use Rattle.scan_model.specs.InRange.{IsInRange, BeginsWithFault, IsFitToRun}
use Rattle.flat_core.specs.FlatTree.{FlatStatement}
use Rattle.flat_core.specs.FlatView.{flats_of}
use Rattle.flat_core.specs.FlatScans.{takes, placed, run_of_all, cleared, flat_scanned}
use Rattle.flat_form.specs.Owners.{OwnerData, program_owner, call_owner}
use Rattle.flat_form.specs.Bodies.{Bodies}
use Rattle.flat_form.specs.Unless.{without_flags}
use Rattle.flat_form.specs.FlatLists.{scratch_of_all, flat_of_all}
use Rattle.flat_form.specs.Pous.{block_body, bodies_of}
use Rattle.flat_form.specs.FlatPrograms.{bodies_in, flat_program}
use Rattle.flat_form.specs.Idle.{is_idle_all, idle_of}
use Rattle.flat_form.specs.WellTyped.{each_tested, IsWellTyped, AreTyped, extents_of, Choice, tested_in, FrameFits, MayRunOf, MayCallOf}
use Rattle.flat_laws.proofs.Shown.{held, Owns, Shows, Done, Stands, CallRuns, BlockRuns, Ran-none}
use Rattle.scan_model.proofs.Keeping.{HoldsFault, holds_fault, IsInRange-length, cleared as fault_cleared, kept_by_all, kept_by_calls}
use Rattle.flat_form.proofs.FrameLemmas.{frames-here}
use Rattle.flat_form.proofs.IdleLemmas.{idle_body-list, idle_body-effect}
use Rattle.flat_laws.proofs.Claims.{ExpressionsRun, EachCallRuns, RunsKeep, RunsLeave, EachExpressionRuns, EachExpressionStays, EachChartRuns}
use Rattle.flat_laws.proofs.Leaving.{runs-leave}
use Rattle.flat_laws.proofs.Running.{RunsAs, done_all}

-- ---- the frame of a FUNCTION

-- a cell of a range, FAULT by its part
fault_cell : Range → CellData
fault_cell r = record { path = []; part = parts.Fault; kind = Elementary types.Bool; range = r; is_subrange = false; initial = pos 0 }

ranges-back : (rs : List Range) → ranges_of (map fault_cell rs) ≡ rs
unfolding fault_cell
ranges-back [] = refl
ranges-back (r ∷ rs) = ap (λ l. r ∷ l) (ranges-back rs)

pub frame-fault : (rs : List Range) → 0 < length rs → (range_at rs 0).low ≡ pos 0 → (range_at rs 0).high ≡ pos 1 → HoldsFault rs
unfolding fault_cell
frame-fault [] some low high = absurd (omega (arith, some))
frame-fault (r ∷ rs) some low high =
    let is_bool : r ≡ range_of types.Bool = ap (λ (v : ℤ). record { low = v; high = r.high }) low ∙ ap (λ (v : ℤ). record { low = pos 0; high = v }) high in
    subst HoldsFault (ranges-back (r ∷ rs)) (holds_fault (map fault_cell (r ∷ rs)) (refl, refl, is_bool))

-- what CallRuns says, over a frame, what a call ends in, its scratch cells and its list
record FrameRuns (rs : List Range) (cs : List Scratch) (frame : FrameData) (ends : List ℤ → State) (scratch : List Scratch) (list : ℕ → List ℕ → ℕ → List FlatStatement) (inputs : ℕ) : Type 0 where
  pub fits : FrameFits frame inputs
  pub effect : State → State
  pub ends_so : (vs : List ℤ) → ends vs ≡ effect (given frame.ranges 2 vs frame.start)
  pub keeps : (s : State) → IsInRange frame.ranges s → IsInRange frame.ranges (effect s)
  pub runs : (answer : ℕ) (places : List ℕ) (k : ℕ) (g : ℤ) (s x : State) → Owns rs cs frame.ranges (tested_in frame) (call_owner answer places) k
      → Shows (length frame.ranges) (call_owner answer places) g s x → IsInRange frame.ranges s → length rs ≤ k → k + length scratch ≤ length x → Stands rs cs k scratch
      → Done (length frame.ranges) k (call_owner answer places) g (effect s) x (run_of_all rs cs (flats_of (list answer places k)) x)

call_runs : (rs : List Range) (cs : List Scratch) (bodies : Bodies) (callees : Callees) (f inputs : ℕ) → FrameRuns rs cs (bodies.frame f) (callees.ends f) (bodies.call_scratch f) (bodies.call_list f) inputs → CallRuns rs cs bodies callees f inputs
call_runs rs cs bodies callees f inputs is = record { fits = is.fits; effect = is.effect; ends = is.ends_so; keeps = is.keeps; runs = is.runs }

frame_runs : (rs : List Range) (cs : List Scratch) (bodies : Bodies) (callees : Callees) (f inputs : ℕ) → CallRuns rs cs bodies callees f inputs → FrameRuns rs cs (bodies.frame f) (callees.ends f) (bodies.call_scratch f) (bodies.call_list f) inputs
frame_runs rs cs bodies callees f inputs is = record { fits = is.fits; effect = is.effect; ends_so = is.ends; keeps = is.keeps; runs = is.runs }

-- ---- POUs

module _ (rs : List Range) (cs : List Scratch) (some : 0 < length rs) (evaluated : EachExpressionRuns rs cs) (stays : EachExpressionStays rs cs) (charts : EachChartRuns rs cs) (ps : List CalledData) where
  abbrev EachCall : ℕ → Type 0
  EachCall n = EachCallRuns rs cs (bodies_of ps n) (callees_of ps n) (MayCallOf ps n)

  abbrev EachRun : ℕ → Type 0
  EachRun n = (own : List Range) (tested : ℕ → Bool) (owner : OwnerData) → HoldsFault own → 0 < length own → (b base : ℕ) → MayRunOf ps own tested n b base → BlockRuns rs cs (bodies_of ps n) (callees_of ps n) own tested owner b base

  abbrev AreTypedHere : ℕ → List Range → (ℕ → Bool) → (ℕ → FrameData) → ℕ → Statements → Type 0
  AreTypedHere n own tested frames base ts = AreTyped frames (MayCallOf ps n) (MayRunOf ps own tested n) (extents_of ps n) own tested base ts

  -- statements that may run and call the first so many POUs
  done_body : (n : ℕ) → EachCall n → EachRun n → (own : List Range) (tested : ℕ → Bool) (owner : OwnerData) (first : HoldsFault own) (filled : 0 < length own) (base : ℕ) (ts : Statements) → LeavesNothing ts → AreTypedHere n own tested (frames_of ps) base ts
      → RunsAs rs cs own tested owner first filled (scratch_of_all (bodies_of ps n) ts) (λ s. state_of (effect_of_all (callees_of ps n) own base ts s)) (flat_of_all (bodies_of ps n) owner base without_flags ts)
  done_body n each_call each_run own tested owner first filled base ts alone typed k f s x owns shows range le filled_rs room stands =
      let bodies = bodies_of ps n in
      let callees = callees_of ps n in
      let runs_here : ExpressionsRun rs cs bodies callees (MayCallOf ps n) own tested owner = evaluated bodies callees (MayCallOf ps n) own tested owner first filled each_call in
      let keeps : RunsKeep callees own = λ b at t h. kept_by_calls own first ps n b at t h in
      let leaves : RunsLeave callees (extents_of ps n) own = λ b at t p above far. runs-leave own p above ps n b at far t in
      done_all rs cs own tested owner first filled bodies callees (MayCallOf ps n) (MayRunOf ps own tested n) (extents_of ps n) keeps runs_here (stays bodies callees (MayCallOf ps n) own each_call) (each_run own tested owner first filled)
      (charts bodies callees (MayCallOf ps n) (MayRunOf ps own tested n) (extents_of ps n) own tested owner first filled keeps leaves runs_here)
      base ts alone (subst (λ frames. AreTypedHere n own tested frames base ts) (sym (frames-here ps n)) typed) k f s x owns shows range le filled_rs room stands

  call-next : (n : ℕ) → EachCall n → EachRun n → EachCall (suc n)
  call-next n each_call each_run f inputs may = call_runs rs cs (bodies_of ps (suc n)) (callees_of ps (suc n)) f inputs (by_test (f == n) refl may)
    where
      here : (q : CalledData) → FrameFits (frame_of q) inputs → LeavesNothing (function_body q) → AreTypedHere n (frame_of q).ranges (tested_in (frame_of q)) (frames_of ps) 0 (function_body q)
          → FrameRuns rs cs (frame_of q) (ends_of (callees_of ps n) q) (scratch_of_all (bodies_of ps n) (function_body q)) (λ answer places k. flat_of_all (bodies_of ps n) (call_owner answer places) 0 without_flags (function_body q) k) inputs
      here (block body) fits alone typed = let room = fits.room in absurd (omega (arith, room))
      here (function types ranges start body) fits alone typed =
          let room = fits.room in
          let same_length = fits.ranges in
          let filled : 0 < length ranges = omega arith in
          let first = frame-fault ranges filled fits.fault_low fits.fault_high in
          record {
            fits = fits;
            effect = λ s. state_of (effect_of_all (callees_of ps n) ranges 0 body s);
            ends_so = λ vs. refl;
            keeps = λ s h. kept_by_all ranges first (callees_of ps n) (λ b at t i. kept_by_calls ranges first ps n b at t i) 0 body s h;
            runs = λ answer places k g s x owns shows range le roomy stands. done_body n each_call each_run ranges (tested_in (frame_of (function types ranges start body))) (call_owner answer places) first filled 0 body alone typed k g s x owns shows range le some roomy stands;
          }

      by_test : (test : Bool) → (f == n) ≡ test
          → Choice test (FrameFits (frames_of ps n) inputs × LeavesNothing (function_body (slice_index_or ps n nothing)) × AreTypedHere n (frames_of ps n).ranges (tested_in (frames_of ps n)) (frames_of ps) 0 (function_body (slice_index_or ps n nothing))) (MayCallOf ps n f inputs)
          → FrameRuns rs cs ((bodies_of ps n).frame f) (λ vs. if test then ends_of (callees_of ps n) (slice_index_or ps n nothing) vs else (callees_of ps n).ends f vs)
          (if test then scratch_of_all (bodies_of ps n) (function_body (slice_index_or ps n nothing)) else (bodies_of ps n).call_scratch f)
          (λ answer places k. if test then flat_of_all (bodies_of ps n) (call_owner answer places) 0 without_flags (function_body (slice_index_or ps n nothing)) k else (bodies_of ps n).call_list f answer places k) inputs
      by_test true e may_here =
          let same : f ≡ n = search (rules, tests) in
          let frame_same : (bodies_of ps n).frame f ≡ frames_of ps n = ap (λ (g : ℕ → FrameData). g f) (frames-here ps n) ∙ ap (frames_of ps) same in
          subst (λ (frame : FrameData). FrameRuns rs cs frame (ends_of (callees_of ps n) (slice_index_or ps n nothing)) (scratch_of_all (bodies_of ps n) (function_body (slice_index_or ps n nothing))) (λ answer places k. flat_of_all (bodies_of ps n) (call_owner answer places) 0 without_flags (function_body (slice_index_or ps n nothing)) k) inputs)
          (sym frame_same) (here (slice_index_or ps n nothing) may_here.0 may_here.1 may_here.2)
      by_test false e may_there = frame_runs rs cs (bodies_of ps n) (callees_of ps n) f inputs (each_call f inputs may_there)

  run-next : (n : ℕ) → EachCall n → EachRun n → EachRun (suc n)
  run-next n each_call each_run own tested owner first filled b base may k f s x owns shows range le room stands = by_test (b == n) may room stands
    where
      here : (q : CalledData) → LeavesNothing (block_body q) → AreTypedHere n own tested (frames_of ps) base (block_body q) → k + length (scratch_of_all (bodies_of ps n) (block_body q)) ≤ length x → Stands rs cs k (scratch_of_all (bodies_of ps n) (block_body q))
          → Done (length own) k owner f (effect_of_run (callees_of ps n) q own base s) x (run_of_all rs cs (flats_of (flat_of_all (bodies_of ps n) owner base without_flags (block_body q) k)) x)
      here (block body) alone typed roomy stand = done_body n each_call each_run own tested owner first filled base body alone typed k f s x owns shows range le some roomy stand
      here (function types ranges start body) alone typed roomy stand = record { shown = shows; ran = Ran-none (length own) k owner x }

      -- an idle block becomes and does nothing
      by_idle : (q : CalledData) (idle : Bool) → is_idle_all (idle_of ps n) (block_body q) ≡ idle → Choice idle (Unit {0}) (LeavesNothing (block_body q) × AreTypedHere n own tested (frames_of ps) base (block_body q)) → k + length (scratch_of_all (bodies_of ps n) (block_body q)) ≤ length x
          → Stands rs cs k (scratch_of_all (bodies_of ps n) (block_body q))
          → Done (length own) k owner f (effect_of_run (callees_of ps n) q own base s) x (run_of_all rs cs (flats_of (flat_of_all (bodies_of ps n) owner base without_flags (block_body q) k)) x)
      by_idle q true e may_here roomy stand =
          let nothing_done = idle_body-effect ps n own q base s e in
          let nothing_left = idle_body-list ps n owner base without_flags (block_body q) k e in
          rw (nothing_done, nothing_left) record { shown = shows; ran = Ran-none (length own) k owner x }
      by_idle q false e typed roomy stand = here q typed.0 typed.1 roomy stand

      by_test : (test : Bool) → Choice test (Choice (is_idle_all (idle_of ps n) (block_body (slice_index_or ps n nothing))) (Unit {0}) (LeavesNothing (block_body (slice_index_or ps n nothing)) × AreTypedHere n own tested (frames_of ps) base (block_body (slice_index_or ps n nothing)))) (MayRunOf ps own tested n b base)
          → k + length (if test then scratch_of_all (bodies_of ps n) (block_body (slice_index_or ps n nothing)) else (bodies_of ps n).run_scratch b) ≤ length x
          → Stands rs cs k (if test then scratch_of_all (bodies_of ps n) (block_body (slice_index_or ps n nothing)) else (bodies_of ps n).run_scratch b)
          → Done (length own) k owner f (if test then effect_of_run (callees_of ps n) (slice_index_or ps n nothing) own base s else (callees_of ps n).runs b own base s) x
          (run_of_all rs cs (flats_of (if test then flat_of_all (bodies_of ps n) owner base without_flags (block_body (slice_index_or ps n nothing)) k else (bodies_of ps n).run_list owner b base k)) x)
      by_test true may_here roomy stand = by_idle (slice_index_or ps n nothing) (is_idle_all (idle_of ps n) (block_body (slice_index_or ps n nothing))) refl may_here roomy stand
      by_test false may_there roomy stand = each_run own tested owner first filled b base may_there k f s x owns shows range le roomy stand

  each_pou : (n : ℕ) → EachCall n × EachRun n
  each_pou zero = (λ f inputs may. absurd may, λ own tested owner first filled b base may k f s x owns shows range le room stands. record { shown = shows; ran = Ran-none (length own) k owner x })
  each_pou (suc n) = let sofar = each_pou n in (call-next n sofar.0 sofar.1, run-next n sofar.0 sofar.1)

-- ---- the cells of a program, which stand in their places

take-same : (n : ℕ) (z t : State) → length t ≡ n → n ≤ length z → ((p : ℕ) → p < n → held z p ≡ held t p) → take n z ≡ t
take-same zero z [] long room same = refl
take-same zero z (w ∷ t) long room same = cc
take-same (suc n) z [] long room same = cc
take-same (suc n) [] (w ∷ t) long room same = absurd (omega (arith, room))
take-same (suc n) (v ∷ z) (w ∷ t) long room same =
    let front : v ≡ w = same 0 (omega arith) in
    ap (λ (u : ℤ). u ∷ take n z) front ∙ ap (λ (u : State). w ∷ u) (take-same n z t (omega arith) (omega arith) (λ p h. same (suc p) (omega arith)))

-- FAULT is 0 or 1
fault_within : (cells : List CellData) → BeginsWithFault cells → (t : State) → IsInRange (ranges_of cells) t → (pos 0 ≤ℤ held t 0) × (held t 0 ≤ℤ pos 1)
fault_within [] begins t range = absurd begins
fault_within (c ∷ cells) begins [] range = absurd range
fault_within (c ∷ cells) begins (v ∷ t) range =
    let low : c.range.low ≡ pos 0 = ap (λ (r : Range). r.low) begins.2 in
    let high : c.range.high ≡ pos 1 = ap (λ (r : Range). r.high) begins.2 in
    (subst (λ u. u ≤ℤ v) low range.0, subst (λ u. v ≤ℤ u) high range.1)

fault_value : (v : ℤ) → pos 0 ≤ℤ v → v ≤ℤ pos 1 → (if is_truth v then pos 1 else pos 0) ≡ v
fault_value v low high = search (rules, tests, ints)

fault_takes : (cells : List CellData) → BeginsWithFault cells → in_range (pos 0) (range_at (ranges_of cells) 0) ≡ true
fault_takes [] begins = absurd begins
fault_takes (c ∷ cells) begins = rw begins.2 refl

some_cells : (cells : List CellData) → BeginsWithFault cells → 0 < length cells
some_cells [] begins = absurd begins
some_cells (c ∷ cells) begins = omega arith

below_is : (c n : ℕ) → c < n → nat_lt c n ≡ true
below_is c n h = search (rules, tests)

placed-own : (rs : List Range) (cs : List Scratch) (p : ℕ) (v : ℤ) (x : State) → p < length rs → placed rs cs p v x ≡ stored rs p v x
placed-own rs cs p v x h = rw (below_is p (length rs) h) refl

program-Owns : (rs : List Range) (cs : List Scratch) (k : ℕ) → length rs ≤ k → Owns rs cs rs each_tested (λ p. p) k
program-Owns rs cs k le = record {
  above = λ p a b. a;
  below = λ p a b. omega arith;
  apart = λ p q a b c d same. same;
  puts = λ p v x a b. placed-own rs cs p v x b;
}

-- the store in which a scan begins, where FAULT is FALSE
begun-Shows : (n : ℕ) (s c : State) → length s ≡ n → 0 < n → Shows n (λ p. p) (pos 0) (slice_set s 0 (pos 0)) (slice_set (s ++ c) 0 (pos 0))
begun-Shows n s c long some =
    let whole = length-append s c in
    let set_now : held (slice_set s 0 (pos 0)) 0 ≡ pos 0 = get_or-set_same s 0 (pos 0) (pos 0) (omega arith) in
    record {
      long = length-set s 0 (pos 0) ∙ long;
      cells = λ p a b. get_or-set_other (s ++ c) 0 p (pos 0) (pos 0) (omega arith) ∙ get_or_append_left s c (pos 0) p (omega arith) ∙ sym (get_or-set_other s 0 p (pos 0) (pos 0) (omega arith));
      fault = rw set_now (get_or-set_same (s ++ c) 0 (pos 0) (pos 0) (omega arith));
    }

program-Stands : (n : ℕ) (rs : List Range) (cs : List Scratch) → length rs ≡ n → Stands rs cs n cs
program-Stands n rs cs long i v low = let same : n + i - length rs ≡ i = omega arith in ap (λ j. takes cs j v) same

-- the state that the store shows at the end is what its cells hold
shown-cells : (cells : List CellData) → BeginsWithFault cells → (t z : State) → IsInRange (ranges_of cells) t → Shows (length cells) (λ p. p) (pos 0) t z → length cells ≤ length z → take (length cells) z ≡ t
shown-cells cells begins t z range shows room = take-same (length cells) z t shows.long room by_place
  where
    by_place : (p : ℕ) → p < length cells → held z p ≡ held t p
    by_place zero h = let both = fault_within cells begins t range in shows.fault ∙ fault_value (held t 0) both.0 both.1
    by_place (suc p) h = shows.cells (suc p) (omega arith) h

-- so far as expressions and charts do
module _ (evaluated : (rs : List Range) (cs : List Scratch) → 0 < length rs → EachExpressionRuns rs cs) (stays : (rs : List Range) (cs : List Scratch) → 0 < length rs → EachExpressionStays rs cs) (charts : (rs : List Range) (cs : List Scratch) → 0 < length rs → EachChartRuns rs cs) where
  pub flat_program-keeps : (p : ProgramData) → IsFitToRun p → IsWellTyped p → (s : State) → IsInRange (ranges_of p.cells) s → flat_scanned (flat_program p) s ≡ scanned p s
  flat_program-keeps p is typed s range =
      let begins = is.begins_with_fault in
      let rs = ranges_of p.cells in
      let ps = p.called in
      let n = length p.cells in
      let bodies = bodies_in p in
      let owner = program_owner in
      let cs = scratch_of_all bodies p.body in
      let long : length rs ≡ n = length-map p.cells (λ (c : CellData). c.range) in
      let s_long : length rs ≡ length s = IsInRange-length rs s range in
      let filled : 0 < length rs = (let h = some_cells p.cells begins in omega arith) in
      let first : HoldsFault rs = holds_fault p.cells begins in
      let x = s ++ cleared cs in
      let x_long = length-append s (cleared cs) in
      let c_long : length (cleared cs) ≡ length cs = length-map cs (λ (c : Scratch). pos 0) in
      let y = slice_set x 0 (pos 0) in
      let y_long : length y ≡ length x = length-set x 0 (pos 0) in
      let s0 = slice_set s 0 (pos 0) in
      let begun_range : IsInRange rs s0 = fault_cleared rs first s range in
      let each = each_pou rs cs filled (evaluated rs cs filled) (stays rs cs filled) (charts rs cs filled) ps (length ps) in
      let list = flat_of_all bodies owner 0 without_flags p.body n in
      let z = run_of_all rs cs (flats_of list) y in
      let t = state_of (effect_of_all (callees_in p) rs 0 p.body s0) in
      let done : Done (length rs) n (λ q. q) (pos 0) t y z = done_body rs cs filled (evaluated rs cs filled) (stays rs cs filled) (charts rs cs filled) ps (length ps) each.0 each.1 rs each_tested owner first filled 0 p.body typed.0 typed.1 n (pos 0) s0 y
      (program-Owns rs cs n (omega arith)) (begun-Shows (length rs) s (cleared cs) (sym s_long) filled) begun_range (omega arith) filled (omega arith) (program-Stands n rs cs long) in
      let z_long = done.ran.long in
      let t_range : IsInRange rs t = kept_by_all rs first (callees_in p) (λ b at u h. kept_by_calls rs first ps (length ps) b at u h) 0 p.body s0 begun_range in
      let shown : Shows n (λ q. q) (pos 0) t z = subst (λ (m : ℕ). Shows m (λ q. q) (pos 0) t z) long done.shown in
      let fits : placed rs cs 0 (pos 0) x ≡ y = placed-own rs cs 0 (pos 0) x filled ∙ rw (fault_takes p.cells begins) refl in
      ap (λ (u : State). take n (run_of_all rs cs (flats_of list) u)) fits ∙ shown-cells p.cells begins t z t_range shown (omega arith)
