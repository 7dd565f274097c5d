-- The turns of a FOR are those that its test lets begin.
use Rattle.std.proofs.Common.{◌≡◌, ◌<◌, ◌≤◌, ℕ, zero, suc, Bool, true, false, if◌then◌else◌, refl, sym, ap, ◌∙◌, arith}
use Rattle.std.proofs.Math.IntN.{ℤ, ◌+ℤ◌}
use Rattle.std.proofs.lemmas.Int.{ints}
use Rattle.typing.specs.Constants.{goes_on, turns_within, turn_count}
use Rattle.typing.specs.Turns.{value_behind, AreAllTurns, AreTooMany}

no_step : (first step : ℤ) → value_behind first step 0 ≡ first
no_step first step = grind (arith, ints)

one_more : (first step : ℤ) (k : ℕ) → value_behind (first +ℤ step) step k ≡ value_behind first step (suc k)
one_more first step k = grind (arith, ints)

-- up to a bound, fewer turns than it end
within_ends : (bound : ℕ) (v last step : ℤ) → turns_within bound v last step < bound → goes_on (value_behind v step (turns_within bound v last step)) last step ≡ false
unfolding turns_within
within_ends zero v last step fewer = absurd (omega arith)
within_ends (suc bound) v last step fewer =
    by_test (goes_on v last step) bound v last step refl (within_ends bound (v +ℤ step) last step) fewer
  where
    by_test : (b : Bool) (bound : ℕ) (v last step : ℤ) → goes_on v last step ≡ b
        → (turns_within bound (v +ℤ step) last step < bound → goes_on (value_behind (v +ℤ step) step (turns_within bound (v +ℤ step) last step)) last step ≡ false)
        → (if b then suc (turns_within bound (v +ℤ step) last step) else 0) < suc bound
        → goes_on (value_behind v step (if b then suc (turns_within bound (v +ℤ step) last step) else 0)) last step ≡ false
    by_test true bound v last step here rest fewer =
        ap (λ (x : ℤ). goes_on x last step) (sym (one_more v step (turns_within bound (v +ℤ step) last step))) ∙ rest (omega arith)
    by_test false bound v last step here rest fewer = ap (λ (x : ℤ). goes_on x last step) (no_step v step) ∙ here

-- each turn that is counted begins with a value that does not pass the last one
within_each : (bound : ℕ) (v last step : ℤ) (k : ℕ) → k < turns_within bound v last step → goes_on (value_behind v step k) last step ≡ true
unfolding turns_within
within_each zero v last step k below = absurd (omega arith)
within_each (suc bound) v last step k below = by_test (goes_on v last step) bound v last step k refl (within_each bound (v +ℤ step) last step) below
  where
    by_test : (b : Bool) (bound : ℕ) (v last step : ℤ) (k : ℕ) → goes_on v last step ≡ b
        → ((j : ℕ) → j < turns_within bound (v +ℤ step) last step → goes_on (value_behind (v +ℤ step) step j) last step ≡ true)
        → k < (if b then suc (turns_within bound (v +ℤ step) last step) else 0)
        → goes_on (value_behind v step k) last step ≡ true
    by_test true bound v last step zero here rest below = ap (λ (x : ℤ). goes_on x last step) (no_step v step) ∙ here
    by_test true bound v last step (suc k) here rest below = ap (λ (x : ℤ). goes_on x last step) (sym (one_more v step k)) ∙ rest k (omega arith)
    by_test false bound v last step k here rest below = absurd (omega arith)

within_most : (bound : ℕ) (v last step : ℤ) → turns_within bound v last step ≤ bound
unfolding turns_within
within_most zero v last step = omega arith
within_most (suc bound) v last step = by_test (goes_on v last step) bound (turns_within bound (v +ℤ step) last step) (within_most bound (v +ℤ step) last step)
  where
    by_test : (b : Bool) (bound n : ℕ) → n ≤ bound → (if b then suc n else 0) ≤ suc bound
    by_test true bound n most = omega arith
    by_test false bound n most = omega arith

pub counted : (first last step : ℤ) → turn_count first last step ≤ 4096 → AreAllTurns (turn_count first last step) first last step
unfolding turn_count
counted first last step few = record {
  each = within_each 4097 first last step;
  ends = within_ends 4097 first last step (omega arith);
}

full : (n : ℕ) → 4096 < n → n ≤ 4097 → n ≡ 4097
full n above below = omega arith

pub too_many : (first last step : ℤ) → 4096 < turn_count first last step → AreTooMany first last step
unfolding turn_count
too_many first last step many k below =
    within_each 4097 first last step k (omega (arith, full (turns_within 4097 first last step) many (within_most 4097 first last step)))
