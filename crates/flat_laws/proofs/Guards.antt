-- What stands behind a statement that may leave its list runs where it did not.
use Rattle.std.proofs.Common.{◌≡◌, ℕ, Bool, true, false, ◌||◌, List, [], ◌∷◌, ℤ, refl}
use Rattle.std.specs.Prelude.{if◌then◌else◌}
use Rattle.plc_types.specs.declared.range.Range.{Range}
use Rattle.program_tree.specs.Tree.{Expression, cell}
use Rattle.program_tree.specs.declared.scratch.Scratch.{Scratch}
use Rattle.meaning.specs.Values.{State}
use Rattle.meaning.specs.Effects.{Effect, on, exited, returned, state_of, followed_by}
use Rattle.flat_core.specs.FlatTree.{FlatStatement, no_flats}
use Rattle.flat_core.specs.FlatView.{flats_of}
use Rattle.flat_core.specs.FlatScans.{run_of_all}
use Rattle.flat_form.specs.FlatCharts.{negated}
use Rattle.flat_form.specs.Unless.{Flags, was_left, guarded, unless_left}
use Rattle.flat_laws.proofs.ChartTests.{IsTest, IsTest-cell, IsTest-not, IsTest-or}
use Rattle.flat_laws.proofs.ChartMoves.{test_run}
use Rattle.flat_laws.proofs.Marks.{Tells, Led, Led-next}

-- whether a list is left
abbrev pub leaves : Effect → Bool
leaves (on s) = false
leaves (exited s) = true
leaves (returned s) = true

-- the flags say it
left_test : (e r : Bool) (flags : Flags) (effect : Effect) (y : State) → Tells e r flags effect y → (e || r) ≡ true → IsTest y (was_left e r flags) (leaves effect)
left_test true true flags (on s) y t h = IsTest-or y (cell flags.exit) (cell flags.returning) false false (IsTest-cell y flags.exit false (t.0 refl)) (IsTest-cell y flags.returning false (t.1 refl))
left_test true true flags (exited s) y t h = IsTest-or y (cell flags.exit) (cell flags.returning) true false (IsTest-cell y flags.exit true t.1) (IsTest-cell y flags.returning false (t.2 refl))
left_test true true flags (returned s) y t h = IsTest-or y (cell flags.exit) (cell flags.returning) false true (IsTest-cell y flags.exit false (t.2 refl)) (IsTest-cell y flags.returning true t.1)
left_test true false flags (on s) y t h = IsTest-cell y flags.exit false (t.0 refl)
left_test true false flags (exited s) y t h = IsTest-cell y flags.exit true t.1
left_test true false flags (returned s) y t h = let wrong : false ≡ true = t.0 in cc
left_test false true flags (on s) y t h = IsTest-cell y flags.returning false (t.1 refl)
left_test false true flags (exited s) y t h = let wrong : false ≡ true = t.0 in cc
left_test false true flags (returned s) y t h = IsTest-cell y flags.returning true t.1
left_test false false flags effect y t h = cc

module _ (rs : List Range) (cs : List Scratch) where
  guard_run : (left : Expression) (ts : List FlatStatement) (y : State) (b : Bool) → IsTest y left b → run_of_all rs cs (flats_of (guarded left ts)) y ≡ (if b then y else run_of_all rs cs (flats_of ts) y)
  guard_run left [] y true t = refl
  guard_run left [] y false t = refl
  guard_run left (u ∷ ts) y true t = test_run rs cs (negated left) (flats_of (u ∷ ts)) no_flats y false (IsTest-not y left true t)
  guard_run left (u ∷ ts) y false t = test_run rs cs (negated left) (flats_of (u ∷ ts)) no_flats y true (IsTest-not y left false t)

  pub unless-run : (e r : Bool) (flags : Flags) (effect : Effect) (ts : List FlatStatement) (y : State) → Tells e r flags effect y
      → run_of_all rs cs (flats_of (unless_left e r flags ts)) y ≡ (if leaves effect then y else run_of_all rs cs (flats_of ts) y)
  unless-run true r flags effect ts y t = guard_run (was_left true r flags) ts y (leaves effect) (left_test true r flags effect y t refl)
  unless-run false true flags effect ts y t = guard_run (was_left false true flags) ts y (leaves effect) (left_test false true flags effect y t refl)
  unless-run false false flags (on s) ts y t = refl
  unless-run false false flags (exited s) ts y t = let wrong : false ≡ true = t.0 in cc
  unless-run false false flags (returned s) ts y t = let wrong : false ≡ true = t.0 in cc

-- an effect, and another where the first goes on
pub Led-followed : (n k : ℕ) (place_at : ℕ → ℕ) (f : ℤ) (e r : Bool) (flags : Flags) (effect : Effect) (next : State → Effect) (x y z : State) → Led n k place_at f e r flags effect x y
    → (effect ≡ on (state_of effect) → Led n k place_at f e r flags (next (state_of effect)) y z) → Led n k place_at f e r flags (followed_by effect next) x (if leaves effect then y else z)
Led-followed n k place_at f e r flags (on s) next x y z a b = Led-next n k place_at f e r flags (on s) (next s) x y z a (b refl)
Led-followed n k place_at f e r flags (exited s) next x y z a b = a
Led-followed n k place_at f e r flags (returned s) next x y z a b = a
