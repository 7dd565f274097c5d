-- Runs of lists, and scratch cells, one behind the other.
use Rattle.std.proofs.Common.{◌≡◌, ℕ, zero, suc, ◌+◌, ◌-◌, ◌<◌, List, [], ◌∷◌, ◌++◌, length, ℤ, refl, ap, ◌∙◌, arith, length-append}
use Rattle.plc_types.specs.declared.range.Range.{Range}
use Rattle.program_tree.specs.declared.scratch.Scratch.{Scratch}
use Rattle.meaning.specs.Values.{State}
use Rattle.flat_core.specs.FlatTree.{FlatStatement}
use Rattle.flat_core.specs.FlatView.{flats_of}
use Rattle.flat_core.specs.FlatScans.{takes, run_of, run_of_all}
use Rattle.flat_laws.proofs.Shown.{Stands}

pub run-append : (rs : List Range) (cs : List Scratch) (a b : List FlatStatement) (x : State) → run_of_all rs cs (flats_of (a ++ b)) x ≡ run_of_all rs cs (flats_of b) (run_of_all rs cs (flats_of a) x)
run-append rs cs [] b x = refl
run-append rs cs (t ∷ a) b x = run-append rs cs a b (run_of rs cs t x)

takes-front : (a b : List Scratch) (i : ℕ) (v : ℤ) → i < length a → takes (a ++ b) i v ≡ takes a i v
takes-front [] b i v h = absurd (omega (arith, h))
takes-front (c ∷ a) b zero v h = refl
takes-front (c ∷ a) b (suc i) v h = takes-front a b i v (omega arith)

takes-back : (a b : List Scratch) (i : ℕ) (v : ℤ) → takes (a ++ b) (length a + i) v ≡ takes b i v
takes-back [] b i v = let same : 0 + i ≡ i = omega arith in ap (λ n. takes b n v) same
takes-back (c ∷ a) b i v = let same : suc (length a) + i ≡ suc (length a + i) = omega arith in ap (λ n. takes (c ∷ (a ++ b)) n v) same ∙ takes-back a b i v

module _ (rs : List Range) (cs : List Scratch) (k : ℕ) (a b : List Scratch) where
  pub Stands-front : Stands rs cs k (a ++ b) → Stands rs cs k a
  Stands-front h i v less = let parts = length-append a b in h i v (omega arith) ∙ takes-front a b i v less

  pub Stands-back : Stands rs cs k (a ++ b) → Stands rs cs (k + length a) b
  Stands-back h i v less =
      let parts = length-append a b in
      let same : k + length a + i - length rs ≡ k + (length a + i) - length rs = omega arith in
      ap (λ n. takes cs n v) same ∙ h (length a + i) v (omega arith) ∙ takes-back a b i v
