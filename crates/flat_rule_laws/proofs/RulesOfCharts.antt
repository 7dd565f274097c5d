-- The flat lists of charts, but for the statements of their actions, keep the rules of flat programs.
use Rattle.std.proofs.Common.{◌≡◌, ℕ, zero, suc, ◌+◌, ◌<◌, Bool, true, false, List, [], ◌∷◌, ◌++◌, length, map, refl, subst, inl, inr, arith}
use Rattle.std.specs.Prelude.{slice_index_or, Option, None, Some, if◌then◌else◌}
use Rattle.plc_types.specs.declared.operator.Operator.{Operator}
use Rattle.plc_types.specs.declared.range.Range.{Range}
use Rattle.program_tree.specs.declared.typed.StepCells.{StepCells}
use Rattle.program_tree.specs.declared.typed.Association.{Association}
use Rattle.program_tree.specs.declared.typed.Qualifier.{Qualifier}
use Rattle.program_tree.specs.declared.typed.Qualifier.TheVariants.{NonStored, Set, Reset, Pulse, FallingPulse}
use Rattle.program_tree.specs.Tree.{Expression, Operands, no_operands, operand, TransitionData, Actions, no_actions, action}
use Rattle.program_tree.specs.declared.scratch.Scratch.{Scratch}
use Rattle.program_tree.specs.ChartPlaces.{latch_places, chart_places, AreSteps, NameSteps}
use Rattle.flat_core.specs.FlatRules.{Reads, AllRead, IsOneOf, IsReadable}
use Rattle.flat_form.specs.Owners.{OwnerData}
use Rattle.flat_form.specs.Bodies.{Bodies}
use Rattle.flat_form.specs.Calls.{scratch_in, before}
use Rattle.flat_form.specs.FlatCharts.{operands_by, joined_to, joined_by, no_step, active_at, before_at, steps_that, unless_reset, latch_test, latch_list, asking, terms, latch_start, runs_test, flags_of, exited_flag, entered_flag, clear_flags, ready_term, ready_test, entered_set, fired_list, scratch_of_transitions, flat_transitions, mark_list, scratch_of_moves, flat_moves}
use Rattle.flat_form.specs.WellTyped.{AreFlags, AreTypedTransitions, FrameFits}
use Rattle.flat_rule_laws.proofs.RulesOfCalls.{Keeps, behind, Within, behind-within, Keeps-both, Usable, readable_later, Owned, Owned-later, StandAt, stand_front, stand_back, CallKeeps, moved_reads, before_keeps}

-- ---- what tests read

module _ (P : ℕ → Type 0) where
  abbrev pub EachOf : List Expression → Type 0
  EachOf [] = Unit {0}
  EachOf (e ∷ es) = Reads P e × EachOf es

  EachOf-append : (es fs : List Expression) → EachOf es → EachOf fs → EachOf (es ++ fs)
  EachOf-append [] fs a b = b
  EachOf-append (e ∷ es) fs a b = (a.0, EachOf-append es fs a.1 b)

  operands_by-read : (o : Operator) (es : List Expression) → EachOf es → AllRead P (operands_by o es)
  operands_by-read o [] h = tt
  operands_by-read o (e ∷ es) h = (h.0, operands_by-read o es h.1)

  joined_to-reads : (e : Expression) (os : Operands) → Reads P e → AllRead P os → Reads P (joined_to e os)
  joined_to-reads e no_operands h hs = h
  joined_to-reads e (operand o t f fs) h hs = (h, hs)

  joined_by-reads : (o : Operator) (e : Expression) (es : List Expression) → Reads P e → EachOf es → Reads P (joined_by o e es)
  joined_by-reads o e es h hs = joined_to-reads e (operands_by o es) h (operands_by-read o es hs)

  unless_reset-reads : (e : Expression) (es : List Expression) → Reads P e → EachOf es → Reads P (unless_reset e es)
  unless_reset-reads e [] h hs = h
  unless_reset-reads e (r ∷ rs) h hs = (h, (joined_by-reads _ r rs hs.0 hs.1, tt))

  asking-reads : (q : Qualifier) (x l : Expression) → Reads P x → Reads P l → EachOf (asking q x l)
  asking-reads NonStored x l a b = (a, tt)
  asking-reads Set x l a b = tt
  asking-reads Reset x l a b = tt
  asking-reads Pulse x l a b = ((a, (b, tt)), tt)
  asking-reads FallingPulse x l a b = ((b, (a, tt)), tt)

  module _ (owner : OwnerData) (base : ℕ) (steps : List StepCells) where
    abbrev pub StepsRead : Type 0
    StepsRead = (i : ℕ) → i < length steps → Reads P (active_at owner base steps i) × Reads P (before_at owner base steps i)

    active-read : StepsRead → (is : List ℕ) → AreSteps (length steps) is → EachOf (map (active_at owner base steps) is)
    active-read each [] h = tt
    active-read each (i ∷ is) h = ((each i h.0).0, active-read each is h.1)

    terms-read : StepsRead → (associations : List Association) → NameSteps (length steps) associations → EachOf (terms owner base steps associations)
    terms-read each [] h = tt
    terms-read each (a ∷ more) h =
        let reads = each a.step h.0 in
        EachOf-append (asking a.qualifier (active_at owner base steps a.step) (before_at owner base steps a.step)) (terms owner base steps more) (asking-reads a.qualifier _ _ reads.0 reads.1) (terms-read each more h.1)

steps_that-named : (n : ℕ) (test : Qualifier → Bool) (associations : List Association) → NameSteps n associations → AreSteps n (steps_that test associations)
steps_that-named n test [] h = tt
steps_that-named n test (a ∷ more) h = by_test (test a.qualifier) (steps_that-named n test more h.1)
  where
    by_test : (b : Bool) → AreSteps n (steps_that test more) → AreSteps n (if b then a.step ∷ steps_that test more else steps_that test more)
    by_test true others = (h.0, others)
    by_test false others = others

-- ---- the chart's cells are its owner's

module _ (own : List Range) (base : ℕ) (actions : Actions) where
  pub latches_own : (steps : List StepCells) → AreFlags own base (chart_places steps actions) → AreFlags own base (latch_places actions)
  latches_own [] h = h
  latches_own (p ∷ ps) h = latches_own ps h.3.3

  steps_own : (steps : List StepCells) → AreFlags own base (chart_places steps actions) → (i : ℕ) → i < length steps
      → (base + (slice_index_or steps i no_step).active < length own) × (base + (slice_index_or steps i no_step).before < length own)
  steps_own [] h i low = absurd (omega arith)
  steps_own (p ∷ ps) h zero low = (h.0.1, h.3.0.1)
  steps_own (p ∷ ps) h (suc i) low = steps_own ps h.3.3 i (omega arith)

module _ (n : ℕ) (cs : List Scratch) (owner : OwnerData) (own : List Range) (base : ℕ) where
  steps_read : (steps : List StepCells) (actions : Actions) (d : List ℕ) → AreFlags own base (chart_places steps actions) → Owned n cs d own owner → StepsRead (IsReadable n d) owner base steps
  steps_read steps actions d flags o i low =
      let its = steps_own own base actions steps flags i low in
      ((o (base + (slice_index_or steps i no_step).active) its.0).0, (o (base + (slice_index_or steps i no_step).before) its.1).0)

  latch_test-reads : (steps : List StepCells) (d : List ℕ) (place : ℕ) (associations : List Association) → StepsRead (IsReadable n d) owner base steps → IsReadable n d (owner (base + place)) → NameSteps (length steps) associations
      → Reads (IsReadable n d) (latch_test owner base steps place associations)
  latch_test-reads steps d place associations each its named =
      unless_reset-reads (IsReadable n d) _ _ (joined_by-reads (IsReadable n d) _ _ _ its (active-read (IsReadable n d) owner base steps each _ (steps_that-named (length steps) _ associations named)))
      (active-read (IsReadable n d) owner base steps each _ (steps_that-named (length steps) _ associations named))

  -- the associations of actions name steps of the chart
  abbrev pub NamedIn : ℕ → Actions → Type 0
  NamedIn m no_actions = Unit {0}
  NamedIn m (action latch associations ss rest) = NameSteps m associations × NamedIn m rest

  pub latch_list-keeps : (steps : List StepCells) (all : Actions) → AreFlags own base (chart_places steps all) → (actions : Actions) (d : List ℕ) → AreFlags own base (latch_places actions) → NamedIn (length steps) actions → Owned n cs d own owner
      → Keeps n cs d (latch_list owner base steps actions)
  latch_list-keeps steps all flags no_actions d mine named o = tt
  latch_list-keeps steps all flags (action None associations ss rest) d mine named o = latch_list-keeps steps all flags rest d mine named.1 o
  latch_list-keeps steps all flags (action (Some place) associations ss rest) d mine named o =
      let p = owner (base + place) in
      let its = o (base + place) mine.0.1 in (
        (its.1, latch_test-reads steps d place associations (steps_read steps all d flags o) its.0 named.0, inl its.0),
        latch_list-keeps steps all flags rest (p ∷ d) mine.3 named.1 (Owned-later n cs d (p ∷ d) own owner (λ q h. inr h) o),
      )

  -- an action runs by cells of the chart
  pub runs_test-reads : (steps : List StepCells) (all : Actions) → AreFlags own base (chart_places steps all) → (latch : Option ℕ) (associations : List Association) (d : List ℕ) → Reads (IsReadable n d) (latch_start owner base latch)
      → NameSteps (length steps) associations → Owned n cs d own owner → Reads (IsReadable n d) (runs_test owner base steps latch associations)
  runs_test-reads steps all flags latch associations d start named o =
      let each = steps_read steps all d flags o in
      unless_reset-reads (IsReadable n d) _ _ (joined_by-reads (IsReadable n d) _ _ _ start (terms-read (IsReadable n d) owner base steps each associations named))
      (active-read (IsReadable n d) owner base steps each _ (steps_that-named (length steps) _ associations named))

  -- ---- the flags of transitions

  abbrev pub FlagsUsable : List ℕ → ℕ → ℕ → Type 0
  FlagsUsable d k m = (i : ℕ) → i < m → Usable n cs d (exited_flag k i) × Usable n cs d (entered_flag k i)

  FlagsUsable-later : (done d : List ℕ) (k m : ℕ) → Within done d → FlagsUsable done k m → FlagsUsable d k m
  FlagsUsable-later done d k m w h i low =
      let its = h i low in
      ((readable_later n cs done d w (exited_flag k i) its.0.0, its.0.1), (readable_later n cs done d w (entered_flag k i) its.1.0, its.1.1))

  FlagsUsable-rest : (d : List ℕ) (k m : ℕ) → FlagsUsable d k (suc m) → FlagsUsable d (k + 2) m
  FlagsUsable-rest d k m h i low =
      let its = h (suc i) (omega arith) in
      let e : exited_flag k (suc i) ≡ exited_flag (k + 2) i = omega arith in
      let f : entered_flag k (suc i) ≡ entered_flag (k + 2) i = omega arith in
      (subst (λ (t : ℕ). Usable n cs d t) e its.0, subst (λ (t : ℕ). Usable n cs d t) f its.1)

  clear_flags-keep : (steps : List StepCells) (k : ℕ) (d : List ℕ) → StandAt n cs k (flags_of steps) → Keeps n cs d (clear_flags steps k)
  clear_flags-keep [] k d is = tt
  clear_flags-keep (p ∷ ps) k d is =
      let a = is.0 in
      let b = is.1.0 in
      let e : k + 1 + 1 ≡ k + 2 = omega arith in
      ((a.room, tt, inr (inl a.is_subrange)), ((b.room, tt, inr (inl b.is_subrange)), clear_flags-keep ps (k + 2) ((k + 1) ∷ k ∷ d) (subst (λ (j : ℕ). StandAt n cs j (flags_of ps)) e is.1.1)))

  clear_flags-set : (steps : List StepCells) (k : ℕ) (done d : List ℕ) → StandAt n cs k (flags_of steps) → Within (behind (clear_flags steps k) done) d → FlagsUsable d k (length steps)
  clear_flags-set [] k done d is w i low = absurd (omega arith)
  clear_flags-set (p ∷ ps) k done d is w zero low =
      let a = is.0 in
      let b = is.1.0 in
      let now = (k + 1) ∷ k ∷ done in
      let e : k ≡ exited_flag k 0 = omega arith in
      let f : k + 1 ≡ entered_flag k 0 = omega arith in (
        subst (λ (t : ℕ). Usable n cs d t) e (inr (w k (behind-within (clear_flags ps (k + 2)) now k (inr (inl refl)))), a.room),
        subst (λ (t : ℕ). Usable n cs d t) f (inr (w (k + 1) (behind-within (clear_flags ps (k + 2)) now (k + 1) (inl refl))), b.room),
      )
  clear_flags-set (p ∷ ps) k done d is w (suc i) low =
      let g : k + 1 + 1 ≡ k + 2 = omega arith in
      let its = clear_flags-set ps (k + 2) ((k + 1) ∷ k ∷ done) d (subst (λ (j : ℕ). StandAt n cs j (flags_of ps)) g is.1.1) w i (omega arith) in
      let e : exited_flag (k + 2) i ≡ exited_flag k (suc i) = omega arith in
      let f : entered_flag (k + 2) i ≡ entered_flag k (suc i) = omega arith in
      (subst (λ (t : ℕ). Usable n cs d t) e its.0, subst (λ (t : ℕ). Usable n cs d t) f its.1)

  entered_keep : (k m : ℕ) (to : List ℕ) (d : List ℕ) → AreSteps m to → FlagsUsable d k m → Keeps n cs d (map (entered_set k) to)
  entered_keep k m [] d h u = tt
  entered_keep k m (i ∷ to) d h u =
      let its = (u i h.0).1 in
      ((its.1, tt, inl its.0), entered_keep k m to (entered_flag k i ∷ d) h.1 (FlagsUsable-later d (entered_flag k i ∷ d) k m (λ p q. inr q) u))

  fired_list-keeps : (k m : ℕ) (from to : List ℕ) (d : List ℕ) → AreSteps m from → AreSteps m to → FlagsUsable d k m → Keeps n cs d (fired_list k from to)
  fired_list-keeps k m [] to d h g u = entered_keep k m to d g u
  fired_list-keeps k m (i ∷ from) to d h g u =
      let its = (u i h.0).0 in
      ((its.1, tt, inl its.0), fired_list-keeps k m from to (exited_flag k i ∷ d) h.1 g (FlagsUsable-later d (exited_flag k i ∷ d) k m (λ p q. inr q) u))

  -- ---- the transitions

  module _ (steps : List StepCells) (actions : Actions) (flags : AreFlags own base (chart_places steps actions)) where
    ready_term-reads : (k i : ℕ) (d : List ℕ) → i < length steps → Owned n cs d own owner → FlagsUsable d k (length steps) → Reads (IsReadable n d) (ready_term owner base steps k i)
    ready_term-reads k i d low o u = ((steps_read steps actions d flags o i low).0, ((u i low).0.0, tt))

    ready_terms-read : (k : ℕ) (is : List ℕ) (d : List ℕ) → AreSteps (length steps) is → Owned n cs d own owner → FlagsUsable d k (length steps) → EachOf (IsReadable n d) (map (ready_term owner base steps k) is)
    ready_terms-read k [] d h o u = tt
    ready_terms-read k (i ∷ is) d h o u = (ready_term-reads k i d h.0 o u, ready_terms-read k is d h.1 o u)

    ready_test-reads : (k : ℕ) (from : List ℕ) (d : List ℕ) → AreSteps (length steps) from → Owned n cs d own owner → FlagsUsable d k (length steps) → Reads (IsReadable n d) (ready_test owner base steps k from)
    ready_test-reads k [] d h o u = tt
    ready_test-reads k (f ∷ fs) d h o u = joined_by-reads (IsReadable n d) _ _ _ (ready_term-reads k f d h.0 o u) (ready_terms-read k fs d h.1 o u)

    module _ (bodies : Bodies) (MayCall : ℕ → ℕ → Type 0)
        (each_fits : (f inputs : ℕ) → MayCall f inputs → FrameFits (bodies.frame f) inputs) (each_call : (f inputs : ℕ) → MayCall f inputs → CallKeeps n cs bodies f)
        (MayRun : ℕ → ℕ → Type 0) (extents : ℕ → ℕ) (tested : ℕ → Bool) where
      abbrev TypedMoves : List TransitionData → Type 0
      TypedMoves ts = AreTypedTransitions bodies.frame MayCall MayRun extents own tested base (length steps) ts

      transitions_keep : (k : ℕ) (ts : List TransitionData) (j : ℕ) (d : List ℕ) → TypedMoves ts → Owned n cs d own owner → FlagsUsable d k (length steps) → StandAt n cs j (scratch_of_transitions bodies ts)
          → Keeps n cs d (flat_transitions bodies owner base steps k ts j)
      transitions_keep k [] j d t o u is = tt
      transitions_keep k (m ∷ ts) j d t o u is =
          let first = before bodies owner base m.condition j in
          let mine = scratch_in bodies m.condition in
          let rest = scratch_of_transitions bodies ts in
          let later = behind-within first d in (
            (
              ready_test-reads k m.from d t.1 o u,
              Keeps-both n cs first _ d (before_keeps n cs bodies MayCall each_fits each_call owner own base m.condition j d t.0 o (stand_front n cs mine rest j is)) (
                (
                  moved_reads n cs bodies MayCall each_fits each_call owner own base m.condition j d (behind first d) t.0 (Owned-later n cs d (behind first d) own owner later o) (λ p h. h),
                  fired_list-keeps k (length steps) m.from m.to (behind first d) t.1 t.2 (FlagsUsable-later d (behind first d) k (length steps) later u),
                  tt,
                ),
                tt,
              ),
              tt,
            ),
            transitions_keep k ts (j + length mine) d t.3 o u (stand_back n cs mine rest j is),
          )

  -- ---- the next marking

  mark_list-keeps : (steps : List StepCells) (all : Actions) (k : ℕ) (d : List ℕ) → AreFlags own base (chart_places steps all) → Owned n cs d own owner → FlagsUsable d k (length steps) → Keeps n cs d (mark_list owner base steps k)
  mark_list-keeps [] all k d flags o u = tt
  mark_list-keeps (p ∷ ps) all k d flags o u =
      let a = owner (base + p.active) in
      let b = owner (base + p.before) in
      let was = o (base + p.before) flags.3.0.1 in
      let is = o (base + p.active) flags.0.1 in
      let now = a ∷ b ∷ d in
      let later = λ (q : ℕ) (h : IsOneOf d q). let x : IsOneOf now q = inr (inr h) in x in
      let e : exited_flag k 0 ≡ k = omega arith in
      let f : entered_flag k 0 ≡ k + 1 = omega arith in
      let its = u 0 (omega arith) in
      let exited = readable_later n cs d (b ∷ d) (λ q h. inr h) k (subst (λ (t : ℕ). IsReadable n d t) e its.0.0) in
      let entered = readable_later n cs d (b ∷ d) (λ q h. inr h) (k + 1) (subst (λ (t : ℕ). IsReadable n d t) f its.1.0) in
      let active = readable_later n cs d (b ∷ d) (λ q h. inr h) a is.0 in (
        (was.1, is.0, inl was.0),
        (
          (is.1, ((active, (exited, tt)), (entered, tt)), inl active),
          mark_list-keeps ps all (k + 2) now flags.3.3 (Owned-later n cs d now own owner later o) (FlagsUsable-later d now (k + 2) (length ps) later (FlagsUsable-rest d k (length ps) u)),
        ),
      )

  -- ---- the last two parts

  module _ (bodies : Bodies) (MayCall : ℕ → ℕ → Type 0)
      (each_fits : (f inputs : ℕ) → MayCall f inputs → FrameFits (bodies.frame f) inputs) (each_call : (f inputs : ℕ) → MayCall f inputs → CallKeeps n cs bodies f)
      (MayRun : ℕ → ℕ → Type 0) (extents : ℕ → ℕ) (tested : ℕ → Bool) where
    pub moves_keep : (steps : List StepCells) (actions : Actions) → AreFlags own base (chart_places steps actions) → (ts : List TransitionData) → AreTypedTransitions bodies.frame MayCall MayRun extents own tested base (length steps) ts
        → (k : ℕ) (d : List ℕ) → Owned n cs d own owner → StandAt n cs k (scratch_of_moves bodies steps ts) → Keeps n cs d (flat_moves bodies owner base steps ts k)
    moves_keep steps actions flags ts t k d o is =
        let first = clear_flags steps k in
        let front = stand_front n cs (flags_of steps) (scratch_of_transitions bodies ts) k is in
        let back = stand_back n cs (flags_of steps) (scratch_of_transitions bodies ts) k is in
        let now = behind first d in
        let moves = flat_transitions bodies owner base steps k ts (k + length (flags_of steps)) in
        let u = clear_flags-set steps k d now front (λ p h. h) in
        let mine = Owned-later n cs d now own owner (behind-within first d) o in
        let end = behind moves now in
        let later = behind-within moves now in
        Keeps-both n cs first _ d (clear_flags-keep steps k d front)
        (Keeps-both n cs moves _ now (transitions_keep steps actions flags bodies MayCall each_fits each_call MayRun extents tested k ts (k + length (flags_of steps)) now t mine u back)
        (mark_list-keeps steps actions k end flags (Owned-later n cs now end own owner later mine) (FlagsUsable-later now end k (length steps) later u)))
