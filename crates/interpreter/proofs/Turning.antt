-- A value that 128 bits do not hold lies in no range, and no later one does.
use Rattle.std.proofs.Common.{◌≡◌, inl, inr, ℕ, suc, ◌+◌, ◌^◌, false, ap, ℤ, pos, neg_ℤ, ◌+ℤ◌, arith}
use Rattle.std.specs.Prelude.{FitsSigned}
use Rattle.std.specs.Int.{w128}
use Rattle.std.proofs.lemmas.Int.{ints, by_lt_z}
use Rattle.program_tree.specs.plc_types.declared.range.Range.{Range}
use Rattle.program_tree.specs.plc_types.Types.{in_range}
use Rattle.interpreter.specs.Turning.{value_after, IsBeyond}

pub next_after : (first step : ℤ) (turns : ℕ) → value_after first step (turns + 1) ≡ value_after first step turns +ℤ step
next_after first step turns = let e : turns + 1 ≡ suc turns = omega arith in ap (value_after first step) e

-- one step further it is beyond still
pub next_beyond : (step v : ℤ) → IsBeyond step v → IsBeyond step (v +ℤ step)
next_beyond step v (inl above) = inl (above.0, omega (arith, ints, above.0, above.1))
next_beyond step v (inr below) = inr (below.0, omega (arith, ints, below.0, below.1))

-- a sum that 128 bits do not hold is beyond
pub sum_beyond : (v step : ℤ) → FitsSigned w128 v → FitsSigned w128 step → (FitsSigned w128 (v +ℤ step) → ⊥) → IsBeyond step (v +ℤ step)
sum_beyond v step fits small out =
    by_lt_z step (pos 0)
    (λ down. inr (down, by_lt_z (v +ℤ step) (neg_ℤ (pos (2 ^ 127))) (λ h. h) (λ h. absurd (out (omega (arith, ints, down, h))))))
    (λ up. inl (up, by_lt_z (v +ℤ step) (pos (2 ^ 127)) (λ h. absurd (out (omega (arith, ints, up, h)))) (λ h. h)))

-- and lies in no range of numbers of 128 bits
pub beyond_out : (step v : ℤ) (r : Range) → FitsSigned w128 r.low → FitsSigned w128 r.high → IsBeyond step v → in_range v r ≡ false
beyond_out step v r low high (inl above) = grind (arith, ints)
beyond_out step v r low high (inr below) = grind (arith, ints)
