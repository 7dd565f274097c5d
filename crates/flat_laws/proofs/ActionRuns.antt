-- What the flat list of a chart asks of its actions: the list of each one's statements shows what they do.
use Rattle.std.proofs.Common.{ℕ, ◌+◌, ◌<◌, ◌≤◌, Bool, List, length, ℤ}
use Rattle.plc_types.specs.declared.range.Range.{Range}
use Rattle.program_tree.specs.Tree.{Actions, no_actions, action}
use Rattle.program_tree.specs.declared.scratch.Scratch.{Scratch}
use Rattle.meaning.specs.Values.{State, Callees}
use Rattle.meaning.specs.Effects.{state_of, effect_of_all}
use Rattle.scan_model.specs.InRange.{IsInRange}
use Rattle.flat_core.specs.FlatView.{flats_of}
use Rattle.flat_core.specs.FlatScans.{run_of_all}
use Rattle.flat_form.specs.Owners.{OwnerData}
use Rattle.flat_form.specs.Bodies.{Bodies}
use Rattle.flat_form.specs.Unless.{without_flags}
use Rattle.flat_form.specs.FlatLists.{scratch_of_all, flat_of_all}
use Rattle.flat_form.specs.WellTyped.{OfAssociated}
use Rattle.flat_laws.proofs.Shown.{Owns, Shows, Done, Stands}

-- an action without associations becomes nothing, and owes nothing
abbrev pub EachActionRuns : List Range → List Scratch → Bodies → Callees → List Range → (ℕ → Bool) → OwnerData → ℕ → Actions → Type 0
EachActionRuns rs cs bodies callees own tested owner base no_actions = Unit {0}
EachActionRuns rs cs bodies callees own tested owner base (action latch associations ss rest) =
    OfAssociated associations ((k : ℕ) (f : ℤ) (s x : State) → Owns rs cs own tested owner k → Shows (length own) owner f s x → IsInRange own s → length rs ≤ k → 0 < length rs → k + length (scratch_of_all bodies ss) ≤ length x → Stands rs cs k (scratch_of_all bodies ss)
    → Done (length own) k owner f (state_of (effect_of_all callees own base ss s)) x (run_of_all rs cs (flats_of (flat_of_all bodies owner base without_flags ss k)) x))
    × EachActionRuns rs cs bodies callees own tested owner base rest
