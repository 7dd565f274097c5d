-- The flat form of a well-typed program keeps the rules of flat programs.
use Rattle.std.proofs.Common.{◌≡◌, ℕ, zero, suc, ◌+◌, ◌-◌, ◌<◌, Bool, true, false, not, ◌||◌, List, [], ◌∷◌, ◌++◌, length, map, ℤ, ◌+ℤ◌, refl, sym, ap, subst, inl, inr, arith, rules, tests}
use Rattle.std.proofs.lemmas.List.{length-map}
use Rattle.std.specs.Prelude.{◌==◌, Option, None, Some, slice_index_or, if◌then◌else◌}
use Rattle.plc_types.specs.declared.elementary.Elementary.{Elementary}
use Rattle.plc_types.specs.declared.range.Range.{Range}
use Rattle.program_tree.specs.declared.typed.TypedLabel.{TypedLabel}
use Rattle.program_tree.specs.declared.typed.TypedLabel.TheVariants.{Single, Span}
use Rattle.program_tree.specs.declared.typed.StepCells.{StepCells}
use Rattle.program_tree.specs.declared.typed.Association.{Association}
use Rattle.plc_types.specs.Types.{in_range}
use Rattle.program_tree.specs.Tree.{number, Statement, assign, call_block, choice, cases, repeat, chart, exit, return, own_body, Statements, no_statements, statement, Choices, no_choices, choose, Entries, no_entries, entry, Actions, no_actions, action, CellData, CalledData, ProgramData}
use Rattle.program_tree.specs.Leaving.{can_exit, can_exit_all, can_return, can_return_all, LeavesNothing}
use Rattle.program_tree.specs.View.{operands_of}
use Rattle.program_tree.specs.declared.scratch.Scratch.{Scratch}
use Rattle.program_tree.specs.Places.{whole_cell}
use Rattle.program_tree.specs.ChartPlaces.{chart_places, latch_places}
use Rattle.meaning.specs.Calls.{nothing}
use Rattle.meaning.specs.Frames.{FrameData, frames_of, function_body}
use Rattle.scan_model.specs.Scans.{ranges_of}
use Rattle.scan_model.specs.InRange.{BeginsWithFault, IsFitToRun}
use Rattle.flat_core.specs.FlatTree.{FlatStatement, set}
use Rattle.flat_core.specs.FlatView.{nested}
use Rattle.flat_core.specs.FlatScans.{takes}
use Rattle.flat_core.specs.FlatRules.{has_subrange, Reads, AllRead, IsReadable, IsFlat}
use Rattle.flat_form.specs.Owners.{OwnerData, program_owner, call_owner}
use Rattle.flat_form.specs.Bodies.{Bodies}
use Rattle.flat_form.specs.Calls.{scratch_in, before}
use Rattle.flat_form.specs.FlatCharts.{latch_start, latch_list, scratch_of_moves}
use Rattle.flat_form.specs.Unless.{Flags, without_flags, unless_left, flag_scratch, flag_start, turn_flags, body_flags}
use Rattle.flat_form.specs.FlatLists.{repeated, scratch_of, scratch_of_all, scratch_of_choices, scratch_of_entries, scratch_of_actions, label_test, or_test, labels_test, unrolled, flat_of, flat_of_all, flat_choices, flat_entries, flat_actions}
use Rattle.flat_form.specs.Pous.{block_body, bodies_of}
use Rattle.flat_form.specs.FlatPrograms.{bodies_in, flat_program}
use Rattle.flat_form.specs.Idle.{is_idle_all, idle_of}
use Rattle.flat_form.specs.WellTyped.{AreFlags, IsTyped, AreTyped, AreTypedChoices, AreTypedEntries, AreTypedActions, FrameFits, Choice, tested_in, each_tested, MayRunOf, MayCallOf, extents_of, IsWellTyped}
use Rattle.flat_form.proofs.IdleLemmas.{idle_body-list}
use Rattle.flat_form.proofs.Owed.{with_turns}
use Rattle.flat_rule_laws.proofs.RulesOfCalls.{Keeps, behind, Within, behind-within, Keeps-both, Usable, AllUsable, usable_at, Owned, Owned-later, StandAt, stand_front, stand_back, CallKeeps, moved_reads, before_keeps}
use Rattle.flat_rule_laws.proofs.RulesOfLeaving.{FlagsMay, without_flags-may, flags_later, unless_left-keeps, flag_start-keeps, turn_flags-may, body_flags-may}
use Rattle.flat_rule_laws.proofs.RulesOfCharts.{latches_own, NamedIn, latch_list-keeps, runs_test-reads, moves_keep}

-- ---- the tests of labels

module _ (P : ℕ → Type 0) (kind : Elementary) (t : ℕ) (may : P t) where
  label_test-reads : (l : TypedLabel) → Reads P (label_test kind t l)
  label_test-reads (Single k) = (may, (tt, tt))
  label_test-reads (Span r) = ((tt, (may, tt)), ((may, (tt, tt)), tt))

  or_tests-read : (rs : List TypedLabel) → AllRead P (operands_of (map (or_test kind t) rs))
  or_tests-read [] = tt
  or_tests-read (r ∷ rs) = (label_test-reads r, or_tests-read rs)

  labels_test-reads : (rs : List TypedLabel) → Reads P (labels_test kind t rs)
  labels_test-reads [] = tt
  labels_test-reads (r ∷ []) = label_test-reads r
  labels_test-reads (r ∷ more ∷ rs) = (label_test-reads r, or_tests-read (more ∷ rs))

-- ---- statements

module _ (n : ℕ) (cs : List Scratch) where
  turns_keep : (place_at : ℕ → ℕ) (own : List Range) (exits returns : Bool) (flags : Flags) (count c : ℕ) (v step : ℤ) (made : List Scratch) (body : ℕ → List FlatStatement) → c < length own
      → (0 < count → (k : ℕ) (d : List ℕ) → Owned n cs d own place_at → FlagsMay n cs d flags → StandAt n cs k made → Keeps n cs d (body k))
      → (k : ℕ) (d : List ℕ) → Owned n cs d own place_at → FlagsMay n cs d flags → StandAt n cs k (repeated count made) → Keeps n cs d (unrolled (unless_left exits returns flags) count (place_at c) v step (length made) body k)
  turns_keep place_at own exits returns flags zero c v step made body low each k d o may is =
      let its = o c low in
      unless_left-keeps n cs exits returns flags (set (place_at c) (number v) ∷ []) d may ((its.1, tt, inl its.0), tt)
  turns_keep place_at own exits returns flags (suc count) c v step made body low each k d o may is =
      let its = o c low in
      let p = place_at c in
      let mine = Owned-later n cs d (p ∷ d) own place_at (λ q h. inr h) o in
      let turn = set p (number v) ∷ body k in
      let first = unless_left exits returns flags turn in
      let later = behind-within first d in
      Keeps-both n cs first _ d
      (unless_left-keeps n cs exits returns flags turn d may ((its.1, tt, inl its.0), each (omega arith) k (p ∷ d) mine (flags_later n cs d (p ∷ d) flags (λ q h. inr h) may) (stand_front n cs made (repeated count made) k is)))
      (turns_keep place_at own exits returns flags count c (v +ℤ step) step made body low (λ more. each (omega arith)) (k + length made) (behind first d) (Owned-later n cs d (behind first d) own place_at later o)
      (flags_later n cs d (behind first d) flags later may) (stand_back n cs made (repeated count made) k is))

  abbrev RunKeeps : Bodies → OwnerData → List Range → ℕ → ℕ → Type 0
  RunKeeps bodies owner own b base = (k : ℕ) (d : List ℕ) → Owned n cs d own owner → StandAt n cs k (bodies.run_scratch b) → Keeps n cs d (bodies.run_list owner b base k)

  module _ (some : 0 < n) (bodies : Bodies) (MayCall : ℕ → ℕ → Type 0)
      (each_fits : (f inputs : ℕ) → MayCall f inputs → FrameFits (bodies.frame f) inputs) (each_call : (f inputs : ℕ) → MayCall f inputs → CallKeeps n cs bodies f)
      (owner : OwnerData) (own : List Range) (MayRun : ℕ → ℕ → Type 0) (each_run : (b base : ℕ) → MayRun b base → RunKeeps bodies owner own b base) (extents : ℕ → ℕ) (tested : ℕ → Bool) where
    abbrev Mine : List ℕ → Type 0
    Mine d = Owned n cs d own owner

    later_mine : (a : List FlatStatement) (d : List ℕ) → Mine d → Mine (behind a d)
    later_mine a d o = Owned-later n cs d (behind a d) own owner (behind-within a d) o

    flags_behind : (a : List FlatStatement) (d : List ℕ) (flags : Flags) → FlagsMay n cs d flags → FlagsMay n cs (behind a d) flags
    flags_behind a d flags m = flags_later n cs d (behind a d) flags (behind-within a d) m

    named_in : (base m : ℕ) (actions : Actions) → AreTypedActions bodies.frame MayCall MayRun extents own tested base m actions → NamedIn n cs owner own base m actions
    named_in base m no_actions t = tt
    named_in base m (action latch associations ss rest) t = (t.1, named_in base m rest t.3)

    start_reads : (base : ℕ) (latch : Option ℕ) (associations : List Association) (ss : Statements) (rest : Actions) (d : List ℕ) → AreFlags own base (latch_places (action latch associations ss rest)) → Mine d → Reads (IsReadable n d) (latch_start owner base latch)
    start_reads base None associations ss rest d h o = tt
    start_reads base (Some place) associations ss rest d h o = (o (base + place) h.0.1).0

    rest_flags : (base : ℕ) (latch : Option ℕ) (associations : List Association) (ss : Statements) (rest : Actions) → AreFlags own base (latch_places (action latch associations ss rest)) → AreFlags own base (latch_places rest)
    rest_flags base None associations ss rest h = h
    rest_flags base (Some place) associations ss rest h = h.3

    mutual
      statement_keeps : (base : ℕ) (flags : Flags) (a : Statement) (k : ℕ) (d : List ℕ) → IsTyped bodies.frame MayCall MayRun extents own tested base a → Mine d → FlagsMay n cs d flags → StandAt n cs k (scratch_of bodies a)
          → Keeps n cs d (flat_of bodies owner base flags a k)
      statement_keeps base flags (assign target e) k d t o m is =
          let first = before bodies owner base e k in
          let mine = later_mine first d o in
          let its = mine (base + target) t.0.1 in
          Keeps-both n cs first _ d (before_keeps n cs bodies MayCall each_fits each_call owner own base e k d t.1 o is)
          ((its.1, moved_reads n cs bodies MayCall each_fits each_call owner own base e k d (behind first d) t.1 mine (λ p h. h), inl its.0), tt)
      statement_keeps base flags (call_block b offset) k d t o m is = each_run b (base + offset) t.1 k d o is
      statement_keeps base flags (choice arms other) k d t o m is =
          let made = scratch_of_choices bodies arms in
          let rest = scratch_of_all bodies other in
          choices_keep base flags arms k (flat_of_all bodies owner base flags other (k + length made)) d t.0 o m (stand_front n cs made rest k is)
          (λ c w. all_keep base flags other (k + length made) c t.1 (Owned-later n cs d c own owner w o) (flags_later n cs d c flags w m) (stand_back n cs made rest k is))
      statement_keeps base flags (cases kind e es other) k d t o m is =
          let first = before bodies owner base e k in
          let mine = scratch_in bodies e in
          let j = k + length mine in
          let entries = scratch_of_entries bodies es in
          let others = scratch_of_all bodies other in
          let back = stand_back n cs mine (whole_cell kind ∷ (entries ++ others)) k is in
          let now = behind first d in
          let o1 = later_mine first d o in
          let o2 = Owned-later n cs now (j ∷ now) own owner (λ p h. inr h) o1 in
          let m2 = flags_later n cs now (j ∷ now) flags (λ p h. inr h) (flags_behind first d flags m) in
          Keeps-both n cs first _ d (before_keeps n cs bodies MayCall each_fits each_call owner own base e k d t.0 o (stand_front n cs mine (whole_cell kind ∷ (entries ++ others)) k is)) (
            (back.0.room, moved_reads n cs bodies MayCall each_fits each_call owner own base e k d now t.0 o1 (λ p h. h), inr (inl back.0.is_subrange)),
            entries_keep base flags kind j es (j + 1) (flat_of_all bodies owner base flags other (j + 1 + length entries)) (j ∷ now) t.1 (inr (inl refl)) o2 m2 (stand_front n cs entries others (j + 1) back.1)
                (all_keep base flags other (j + 1 + length entries) (j ∷ now) t.2 o2 m2 (stand_back n cs entries others (j + 1) back.1)),
          )
      statement_keeps base flags (repeat turns body) k d t o m is =
          let exits = can_exit_all body in
          let first = flag_start exits k in
          let mine = flag_scratch exits in
          let made = scratch_of_all bodies body in
          let rest = repeated turns.count made in
          let front = stand_front n cs mine rest k is in
          let inside = turn_flags exits flags k in
          Keeps-both n cs first _ d (flag_start-keeps n cs exits k d front)
          (turns_keep owner own exits (can_return_all body) inside turns.count (base + turns.control) turns.first turns.step made (flat_of_all bodies owner base inside body) t.0.1
          (λ some_turn j c own_cells may r. all_keep base inside body j c (with_turns turns.count (AreTyped bodies.frame MayCall MayRun extents own tested base body) t.2 some_turn) own_cells may r) (k + length mine) (behind first d)
          (later_mine first d o) (turn_flags-may n cs exits flags k d front m) (stand_back n cs mine rest k is))
      statement_keeps base flags (chart steps actions ts) k d t o m is =
          let latches = latch_list owner base steps actions in
          let d1 = behind latches d in
          let o1 = later_mine latches d o in
          let acts = flat_actions bodies owner base steps actions k in
          let made = scratch_of_actions bodies actions in
          let rest = scratch_of_moves bodies steps ts in
          let low = latches_own own base actions steps t.0 in
          Keeps-both n cs latches _ d (latch_list-keeps n cs owner own base steps actions t.0 actions d low (named_in base (length steps) actions t.2) o)
          (Keeps-both n cs acts _ d1 (actions_keep base steps actions t.0 actions k d1 low t.2 o1 (stand_front n cs made rest k is))
          (moves_keep n cs owner own base bodies MayCall each_fits each_call MayRun extents tested steps actions t.0 ts t.3 (k + length made) (behind acts d1) (later_mine acts d1 o1) (stand_back n cs made rest k is)))
      statement_keeps base flags exit k d t o m is = ((m.0.1, tt, inl m.0.0), tt)
      statement_keeps base flags return k d t o m is = ((m.1.1, tt, inl m.1.0), tt)
      statement_keeps base flags (own_body ss) k d t o m is =
          let returns = can_return_all ss in
          let first = flag_start returns k in
          let mine = flag_scratch returns in
          let rest = scratch_of_all bodies ss in
          let front = stand_front n cs mine rest k is in
          Keeps-both n cs first _ d (flag_start-keeps n cs returns k d front)
          (all_keep base (body_flags returns flags k) ss (k + length mine) (behind first d) t (later_mine first d o) (body_flags-may n cs returns flags k d front m) (stand_back n cs mine rest k is))

      pub all_keep : (base : ℕ) (flags : Flags) (ts : Statements) (k : ℕ) (d : List ℕ) → AreTyped bodies.frame MayCall MayRun extents own tested base ts → Mine d → FlagsMay n cs d flags → StandAt n cs k (scratch_of_all bodies ts)
          → Keeps n cs d (flat_of_all bodies owner base flags ts k)
      all_keep base flags no_statements k d t o m is = tt
      all_keep base flags (statement a ts) k d t o m is =
          let first = flat_of bodies owner base flags a k in
          let made = scratch_of bodies a in
          let rest = scratch_of_all bodies ts in
          let others = flat_of_all bodies owner base flags ts (k + length made) in
          let m1 = flags_behind first d flags m in
          Keeps-both n cs first _ d (statement_keeps base flags a k d t.0 o m (stand_front n cs made rest k is))
          (unless_left-keeps n cs (can_exit a) (can_return a) flags others (behind first d) m1 (all_keep base flags ts (k + length made) (behind first d) t.1 (later_mine first d o) m1 (stand_back n cs made rest k is)))

      choices_keep : (base : ℕ) (flags : Flags) (arms : Choices) (k : ℕ) (rest : List FlatStatement) (d : List ℕ) → AreTypedChoices bodies.frame MayCall MayRun extents own tested base arms → Mine d → FlagsMay n cs d flags → StandAt n cs k (scratch_of_choices bodies arms)
          → ((c : List ℕ) → Within d c → Keeps n cs c rest) → Keeps n cs d (nested (flat_choices bodies owner base flags arms k) rest)
      choices_keep base flags no_choices k rest d t o m is others = others d (λ p h. h)
      choices_keep base flags (choose e ss arms) k rest d t o m is others =
          let first = before bodies owner base e k in
          let mine = scratch_in bodies e in
          let body = scratch_of_all bodies ss in
          let more = scratch_of_choices bodies arms in
          let j = k + length mine in
          let back = stand_back n cs mine (body ++ more) k is in
          let now = behind first d in
          let o1 = later_mine first d o in
          let m1 = flags_behind first d flags m in
          Keeps-both n cs first _ d (before_keeps n cs bodies MayCall each_fits each_call owner own base e k d t.0 o (stand_front n cs mine (body ++ more) k is)) (
            (
              moved_reads n cs bodies MayCall each_fits each_call owner own base e k d now t.0 o1 (λ p h. h),
              all_keep base flags ss j now t.1 o1 m1 (stand_front n cs body more j back),
              choices_keep base flags arms (j + length body) rest now t.2 o1 m1 (stand_back n cs body more j back) (λ c w. others c (λ p h. w p (behind-within first d p h))),
            ),
            tt,
          )

      entries_keep : (base : ℕ) (flags : Flags) (kind : Elementary) (s : ℕ) (es : Entries) (k : ℕ) (rest : List FlatStatement) (d : List ℕ) → AreTypedEntries bodies.frame MayCall MayRun extents own tested base es → IsReadable n d s → Mine d → FlagsMay n cs d flags → StandAt n cs k (scratch_of_entries bodies es)
          → Keeps n cs d rest → Keeps n cs d (nested (flat_entries bodies owner base flags kind s es k) rest)
      entries_keep base flags kind s no_entries k rest d t may o m is others = others
      entries_keep base flags kind s (entry labels ss es) k rest d t may o m is others =
          let body = scratch_of_all bodies ss in
          let more = scratch_of_entries bodies es in (
            (
              labels_test-reads (IsReadable n d) kind s may labels,
              all_keep base flags ss k d t.0 o m (stand_front n cs body more k is),
              entries_keep base flags kind s es (k + length body) rest d t.1 may o m (stand_back n cs body more k is) others,
            ),
            tt,
          )

      actions_keep : (base : ℕ) (steps : List StepCells) (all : Actions) → AreFlags own base (chart_places steps all) → (actions : Actions) (k : ℕ) (d : List ℕ) → AreFlags own base (latch_places actions) → AreTypedActions bodies.frame MayCall MayRun extents own tested base (length steps) actions → Mine d
          → StandAt n cs k (scratch_of_actions bodies actions) → Keeps n cs d (flat_actions bodies owner base steps actions k)
      actions_keep base steps all flags no_actions k d low t o is = tt
      actions_keep base steps all flags (action latch [] ss rest) k d low t o is =
          actions_keep base steps all flags rest (k + 0) d (rest_flags base latch [] ss rest low) t.3 o (stand_back n cs [] (scratch_of_actions bodies rest) k is)
      actions_keep base steps all flags (action latch (a ∷ more) ss rest) k d low t o is =
          let body = scratch_of_all bodies ss in
          let others = scratch_of_actions bodies rest in (
            (runs_test-reads n cs owner own base steps all flags latch (a ∷ more) d (start_reads base latch (a ∷ more) ss rest d low o) t.1 o, all_keep base without_flags ss k d t.2 o (without_flags-may n cs d some) (stand_front n cs body others k is), tt),
            actions_keep base steps all flags rest (k + length body) d (rest_flags base latch (a ∷ more) ss rest low) t.3 o (stand_back n cs body others k is),
          )

-- ---- POUs, each of which runs and calls those before it

frame_same : (ps : List CalledData) (m : ℕ) → (bodies_of ps m).frame ≡ frames_of ps
frame_same ps zero = refl
frame_same ps (suc m) = frame_same ps m

module _ (ps : List CalledData) (n : ℕ) (cs : List Scratch) (some : 0 < n) where
  abbrev RunsKeep : ℕ → Type 0
  RunsKeep m = (owner : OwnerData) (own : List Range) (tested : ℕ → Bool) (b base : ℕ) → MayRunOf ps own tested m b base → RunKeeps n cs (bodies_of ps m) owner own b base

  abbrev CallsKeep : ℕ → Type 0
  CallsKeep m = (f inputs : ℕ) → MayCallOf ps m f inputs → FrameFits (frames_of ps f) inputs × CallKeeps n cs (bodies_of ps m) f

  -- the body of a POU, over the cells of an owner
  body_keeps : (m : ℕ) → RunsKeep m → CallsKeep m → (owner : OwnerData) (own : List Range) (tested : ℕ → Bool) (base : ℕ) (ts : Statements)
      → AreTyped (frames_of ps) (MayCallOf ps m) (MayRunOf ps own tested m) (extents_of ps m) own tested base ts
      → (k : ℕ) (d : List ℕ) → Owned n cs d own owner → StandAt n cs k (scratch_of_all (bodies_of ps m) ts) → Keeps n cs d (flat_of_all (bodies_of ps m) owner base without_flags ts k)
  body_keeps m runs calls owner own tested base ts t k d o is =
      let frames = sym (frame_same ps m) in
      let typed = subst (λ (g : ℕ → FrameData). AreTyped g (MayCallOf ps m) (MayRunOf ps own tested m) (extents_of ps m) own tested base ts) frames t in
      let fits = λ (f inputs : ℕ) (may : MayCallOf ps m f inputs). subst (λ (g : ℕ → FrameData). FrameFits (g f) inputs) frames (calls f inputs may).0 in
      all_keep n cs some (bodies_of ps m) (MayCallOf ps m) fits (λ f inputs may. (calls f inputs may).1) owner own (MayRunOf ps own tested m) (runs owner own tested) (extents_of ps m) tested base without_flags ts k d typed o (without_flags-may n cs d some) is

  runs_keep : (m : ℕ) → RunsKeep m → CallsKeep m → RunsKeep (suc m)
  runs_keep m runs calls owner own tested b base may k d o is = by_cases (b == m) may is
    where
      -- an idle block becomes nothing
      by_idle : (ts : Statements) (idle : Bool) → is_idle_all (idle_of ps m) ts ≡ idle → Choice idle (Unit {0}) (LeavesNothing ts × AreTyped (frames_of ps) (MayCallOf ps m) (MayRunOf ps own tested m) (extents_of ps m) own tested base ts)
          → StandAt n cs k (scratch_of_all (bodies_of ps m) ts) → Keeps n cs d (flat_of_all (bodies_of ps m) owner base without_flags ts k)
      by_idle ts true e t s = let nothing_left = idle_body-list ps m owner base without_flags ts k e in rw nothing_left tt
      by_idle ts false e t s = body_keeps m runs calls owner own tested base ts t.1 k d o s

      by_cases : (test : Bool)
          → Choice test (Choice (is_idle_all (idle_of ps m) (block_body (slice_index_or ps m nothing))) (Unit {0}) (LeavesNothing (block_body (slice_index_or ps m nothing)) × AreTyped (frames_of ps) (MayCallOf ps m) (MayRunOf ps own tested m) (extents_of ps m) own tested base (block_body (slice_index_or ps m nothing)))) (MayRunOf ps own tested m b base)
          → StandAt n cs k (if test then scratch_of_all (bodies_of ps m) (block_body (slice_index_or ps m nothing)) else (bodies_of ps m).run_scratch b)
          → Keeps n cs d (if test then flat_of_all (bodies_of ps m) owner base without_flags (block_body (slice_index_or ps m nothing)) k else (bodies_of ps m).run_list owner b base k)
      by_cases true t s = by_idle (block_body (slice_index_or ps m nothing)) (is_idle_all (idle_of ps m) (block_body (slice_index_or ps m nothing))) refl t s
      by_cases false t s = runs owner own tested b base t k d o s

  -- a FUNCTION of a number may be called with so many inputs
  abbrev CallsBody : ℕ → ℕ → Type 0
  CallsBody m inputs =
      FrameFits (frames_of ps m) inputs × LeavesNothing (function_body (slice_index_or ps m nothing))
      × AreTyped (frames_of ps) (MayCallOf ps m) (MayRunOf ps (frames_of ps m).ranges (tested_in (frames_of ps m)) m) (extents_of ps m) (frames_of ps m).ranges (tested_in (frames_of ps m)) 0 (function_body (slice_index_or ps m nothing))

  calls_keep : (m : ℕ) → RunsKeep m → CallsKeep m → CallsKeep (suc m)
  calls_keep m runs calls f inputs may = (fits (f == m) refl may, λ result places k d u us is. by_cases result places k d u us (f == m) may is)
    where
      fits : (test : Bool) → (f == m) ≡ test → Choice test (CallsBody m inputs) (MayCallOf ps m f inputs) → FrameFits (frames_of ps f) inputs
      fits true e t = let same : m ≡ f = search (rules, tests) in subst (λ (g : ℕ). FrameFits (frames_of ps g) inputs) same t.0
      fits false e t = (calls f inputs t).0

      by_cases : (result : ℕ) (places : List ℕ) (k : ℕ) (d : List ℕ) → Usable n cs d result → AllUsable n cs d places → (test : Bool) → Choice test (CallsBody m inputs) (MayCallOf ps m f inputs)
          → StandAt n cs k (if test then scratch_of_all (bodies_of ps m) (function_body (slice_index_or ps m nothing)) else (bodies_of ps m).call_scratch f)
          → Keeps n cs d (if test then flat_of_all (bodies_of ps m) (call_owner result places) 0 without_flags (function_body (slice_index_or ps m nothing)) k else (bodies_of ps m).call_list f result places k)
      by_cases result places k d u us true t is =
          let fault : Usable n cs d 0 = (inl some, omega arith) in
          body_keeps m runs calls (call_owner result places) (frames_of ps m).ranges (tested_in (frames_of ps m)) 0 (function_body (slice_index_or ps m nothing)) t.2 k d
          (λ p h. usable_at n cs d (0 ∷ result ∷ places) p (fault, (u, us)) fault) is
      by_cases result places k d u us false t is = (calls f inputs t).1 result places k d u us is

  each_keeps : (m : ℕ) → RunsKeep m × CallsKeep m
  each_keeps zero = ((λ owner own tested b base may k d o is. tt), λ f inputs may. absurd may)
  each_keeps (suc m) = let before_it = each_keeps m in (runs_keep m before_it.0 before_it.1, calls_keep m before_it.0 before_it.1)

-- ---- programs

-- the scratch cells from a number on
abbrev from_on : ℕ → List Scratch → List Scratch
from_on zero all = all
from_on (suc i) [] = []
from_on (suc i) (c ∷ all) = from_on i all

record FirstAt (all : List Scratch) (i : ℕ) (c : Scratch) (more : List Scratch) : Type 0 where
  room : i < length all
  is_subrange : has_subrange all i ≡ c.is_subrange
  takes : (v : ℤ) → takes all i v ≡ (not c.is_subrange || in_range v c.range)
  behind_it : from_on (suc i) all ≡ more

first_at : (all : List Scratch) (i : ℕ) (c : Scratch) (more : List Scratch) → from_on i all ≡ c ∷ more → FirstAt all i c more
first_at [] zero c more e = cc
first_at [] (suc i) c more e = cc
first_at (x ∷ all) zero c more e =
    let same : x ≡ c = cc in
    record { room = omega arith; is_subrange = ap (λ (y : Scratch). y.is_subrange) same; takes = λ v. ap (λ (y : Scratch). not y.is_subrange || in_range v y.range) same; behind_it = cc }
first_at (x ∷ all) (suc i) c more e =
    let its = first_at all i c more e in
    let low = its.room in
    record { room = omega arith; is_subrange = its.is_subrange; takes = its.takes; behind_it = its.behind_it }

-- each stands behind the cells
all_stand : (n : ℕ) (all made : List Scratch) (i : ℕ) → from_on i all ≡ made → StandAt n all (n + i) made
all_stand n all [] i e = tt
all_stand n all (c ∷ made) i e =
    let its = first_at all i c made e in
    let low = its.room in
    let back : n + i - n ≡ i = omega arith in
    let more : n + suc i ≡ n + i + 1 = omega arith in
    (record { room = omega arith; is_subrange = rw back its.is_subrange; takes = λ v. rw back (its.takes v) }, subst (λ (j : ℕ). StandAt n all j made) more (all_stand n all made (suc i) its.behind_it))

some_cells : (cells : List CellData) → BeginsWithFault cells → 0 < length cells
some_cells [] begins = absurd begins
some_cells (c ∷ cells) begins = omega arith

pub flat_program-keeps_rules : (p : ProgramData) → IsFitToRun p → IsWellTyped p → IsFlat (flat_program p)
flat_program-keeps_rules p is typed =
    let n = length p.cells in
    let cs = scratch_of_all (bodies_in p) p.body in
    let some = some_cells p.cells is.begins_with_fault in
    let each = each_keeps p.called n cs some (length p.called) in
    let ranges : length (ranges_of p.cells) ≡ length p.cells = length-map p.cells (λ c. c.range) in
    let none : n + 0 ≡ n = omega arith in (
      (omega arith, tt, inl (inl some)),
      body_keeps p.called n cs some (length p.called) each.0 each.1 program_owner (ranges_of p.cells) each_tested 0 p.body typed.1 n (0 ∷ [])
          (λ q h. (inl (omega arith), omega arith)) (subst (λ (j : ℕ). StandAt n cs j cs) none (all_stand n cs cs 0 refl)),
    )
