-- Inputs may be assigned from the last to the first: their cells differ, and none is FAULT.
use Rattle.std.proofs.Common.{◌≡◌, ℕ, zero, suc, ◌+◌, ◌<◌, Bool, true, false, List, [], ◌∷◌, ◌++◌, take, length, ℤ, pos, refl, sym, ap, ◌∙◌, arith}
use Rattle.std.specs.Prelude.{slice_set, if◌then◌else◌}
use Rattle.std.proofs.Math.Seq.{take-append_seam}
use Rattle.plc_types.specs.declared.range.Range.{Range}
use Rattle.plc_types.specs.Types.{in_range}
use Rattle.meaning.specs.Values.{State}
use Rattle.meaning.specs.Effects.{range_at, stored}
use Rattle.meaning.specs.Calls.{given}

slice_set-swap : (s : State) (c d : ℕ) (v w : ℤ) → c < d → slice_set (slice_set s c v) d w ≡ slice_set (slice_set s d w) c v
slice_set-swap [] c d v w h = refl
slice_set-swap (x ∷ s) zero zero v w h = absurd (omega (arith, h))
slice_set-swap (x ∷ s) zero (suc d) v w h = refl
slice_set-swap (x ∷ s) (suc c) zero v w h = absurd (omega (arith, h))
slice_set-swap (x ∷ s) (suc c) (suc d) v w h = ap (λ t. x ∷ t) (slice_set-swap s c d v w (omega (arith, h)))

stored-swap : (rs : List Range) (s : State) (c d : ℕ) (v w : ℤ) → 0 < c → c < d → stored rs c v (stored rs d w s) ≡ stored rs d w (stored rs c v s)
stored-swap rs s c d v w p h = by (in_range v (range_at rs c)) (in_range w (range_at rs d))
  where
    by : (a b : Bool) → (if a then slice_set (if b then slice_set s d w else slice_set s 0 (pos 1)) c v else slice_set (if b then slice_set s d w else slice_set s 0 (pos 1)) 0 (pos 1))
        ≡ (if b then slice_set (if a then slice_set s c v else slice_set s 0 (pos 1)) d w else slice_set (if a then slice_set s c v else slice_set s 0 (pos 1)) 0 (pos 1))
    by true true = sym (slice_set-swap s c d v w h)
    by true false = slice_set-swap s 0 c (pos 1) v p
    by false true = sym (slice_set-swap s 0 d (pos 1) w (omega arith))
    by false false = refl

-- the first input may be assigned last
given-first : (rs : List Range) (c d : ℕ) (v : ℤ) (vs : List ℤ) (s : State) → 0 < c → c < d → stored rs c v (given rs d vs s) ≡ given rs d vs (stored rs c v s)
given-first rs c d v [] s p h = refl
given-first rs c d v (w ∷ vs) s p h =
    given-first rs c (d + 1) v vs (stored rs d w s) p (omega arith) ∙ ap (given rs (d + 1) vs) (stored-swap rs s c d v w p h)

-- one input more
pub given-more : (rs : List Range) (c n : ℕ) (v w : ℤ) (vs all : List ℤ) (cells tail front start : State) → 0 < c → length cells ≡ n → w ≡ v → cells ≡ stored rs c w front
    → front ≡ given rs (c + 1) vs start → all ≡ v ∷ vs → take n (cells ++ tail) ≡ given rs c all start
given-more rs c n v w vs all cells tail front start p len same st fr is =
    let k : take n (cells ++ tail) ≡ cells = rw (← len) (take-append_seam cells tail) in
    let g : stored rs c v (given rs (c + 1) vs start) ≡ given rs c (v ∷ vs) start = given-first rs c (c + 1) v vs start p (omega arith) in
    k ∙ st ∙ rw (same, fr, is) g
