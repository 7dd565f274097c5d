-- What is shown of expressions, charts and calls, each in its own part.
use Rattle.std.proofs.Common.{◌≡◌, ℕ, ◌+◌, ◌<◌, ◌≤◌, Bool, true, List, length, ℤ}
use Rattle.plc_types.specs.declared.range.Range.{Range}
use Rattle.program_tree.specs.declared.typed.StepCells.{StepCells}
use Rattle.plc_types.specs.Types.{in_range}
use Rattle.program_tree.specs.Tree.{Expression, TransitionData, chart, Actions}
use Rattle.program_tree.specs.declared.scratch.Scratch.{Scratch}
use Rattle.meaning.specs.Values.{State, Callees, value_of}
use Rattle.meaning.specs.Effects.{state_of, effect_of}
use Rattle.scan_model.specs.InRange.{IsInRange}
use Rattle.flat_core.specs.FlatView.{flats_of}
use Rattle.flat_core.specs.FlatScans.{run_of_all}
use Rattle.flat_form.specs.Owners.{OwnerData}
use Rattle.flat_form.specs.Bodies.{Bodies}
use Rattle.flat_form.specs.Calls.{scratch_in, before, moved}
use Rattle.flat_form.specs.Unless.{without_flags}
use Rattle.flat_form.specs.FlatLists.{scratch_of, flat_of}
use Rattle.flat_form.specs.WellTyped.{stays_in, IsTypedValue, IsTyped}
use Rattle.flat_laws.proofs.Shown.{held, Owns, Shows, Done, Evaluated, Stands, CallRuns}
use Rattle.scan_model.proofs.Keeping.{HoldsFault}
use Rattle.flat_laws.proofs.ActionRuns.{EachActionRuns}

abbrev pub ExpressionsRun : List Range → List Scratch → Bodies → Callees → (ℕ → ℕ → Type 0) → List Range → (ℕ → Bool) → OwnerData → Type 0
ExpressionsRun rs cs bodies callees MayCall own tested owner =
    (base : ℕ) (e : Expression) (k : ℕ) (f : ℤ) (s x : State) → IsTypedValue bodies.frame MayCall own base e → Owns rs cs own tested owner k → Shows (length own) owner f s x → IsInRange own s → length rs ≤ k → k + length (scratch_in bodies e) ≤ length x → Stands rs cs k (scratch_in bodies e)
    → Evaluated callees base e (moved bodies owner base e k) s k (k + length (scratch_in bodies e)) x (run_of_all rs cs (flats_of (before bodies owner base e k)) x)

abbrev pub ExpressionsStay : Bodies → Callees → (ℕ → ℕ → Type 0) → List Range → Type 0
ExpressionsStay bodies callees MayCall own =
    (base : ℕ) (e : Expression) (r : Range) (s : State) → stays_in bodies.frame own base e r ≡ true → IsTypedValue bodies.frame MayCall own base e → IsInRange own s → in_range (value_of callees base e s) r ≡ true

abbrev pub ChartsRun : List Range → List Scratch → Bodies → Callees → (ℕ → ℕ → Type 0) → (ℕ → ℕ → Type 0) → (ℕ → ℕ) → List Range → (ℕ → Bool) → OwnerData → Type 0
ChartsRun rs cs bodies callees MayCall MayRun extents own tested owner =
    (base : ℕ) (steps : List StepCells) (actions : Actions) (ts : List TransitionData) → IsTyped bodies.frame MayCall MayRun extents own tested base (chart steps actions ts) → EachActionRuns rs cs bodies callees own tested owner base actions
    → (k : ℕ) (f : ℤ) (s x : State) → Owns rs cs own tested owner k → Shows (length own) owner f s x → IsInRange own s → length rs ≤ k → 0 < length rs
    → k + length (scratch_of bodies (chart steps actions ts)) ≤ length x → Stands rs cs k (scratch_of bodies (chart steps actions ts))
    → Done (length own) k owner f (state_of (effect_of callees own base (chart steps actions ts) s)) x (run_of_all rs cs (flats_of (flat_of bodies owner base without_flags (chart steps actions ts) k)) x)

-- the FUNCTIONs that may be called run as their lists show
abbrev pub EachCallRuns : List Range → List Scratch → Bodies → Callees → (ℕ → ℕ → Type 0) → Type 0
EachCallRuns rs cs bodies callees MayCall = (f inputs : ℕ) → MayCall f inputs → CallRuns rs cs bodies callees f inputs

-- a run of a block keeps every cell in its range, and leaves those from its extent on
abbrev pub RunsKeep : Callees → List Range → Type 0
RunsKeep callees own = (b base : ℕ) (s : State) → IsInRange own s → IsInRange own (callees.runs b own base s)

abbrev pub RunsLeave : Callees → (ℕ → ℕ) → List Range → Type 0
RunsLeave callees extents own = (b base : ℕ) (s : State) (p : ℕ) → 0 < p → base + extents b ≤ p → held (callees.runs b own base s) p ≡ held s p

-- ---- the same wherever they stand

abbrev pub EachExpressionRuns : List Range → List Scratch → Type 1
EachExpressionRuns rs cs =
    (bodies : Bodies) (callees : Callees) (MayCall : ℕ → ℕ → Type 0) (own : List Range) (tested : ℕ → Bool) (owner : OwnerData) → HoldsFault own → 0 < length own → EachCallRuns rs cs bodies callees MayCall → ExpressionsRun rs cs bodies callees MayCall own tested owner

abbrev pub EachExpressionStays : List Range → List Scratch → Type 1
EachExpressionStays rs cs = (bodies : Bodies) (callees : Callees) (MayCall : ℕ → ℕ → Type 0) (own : List Range) → EachCallRuns rs cs bodies callees MayCall → ExpressionsStay bodies callees MayCall own

abbrev pub EachChartRuns : List Range → List Scratch → Type 1
EachChartRuns rs cs =
    (bodies : Bodies) (callees : Callees) (MayCall MayRun : ℕ → ℕ → Type 0) (extents : ℕ → ℕ) (own : List Range) (tested : ℕ → Bool) (owner : OwnerData) → HoldsFault own → 0 < length own → RunsKeep callees own → RunsLeave callees extents own
    → ExpressionsRun rs cs bodies callees MayCall own tested owner → ChartsRun rs cs bodies callees MayCall MayRun extents own tested owner
