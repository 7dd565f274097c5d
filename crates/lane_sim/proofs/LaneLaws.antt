-- What the operations on words are in each lane.
use Rattle.std.proofs.Common.{◌≡◌, ℕ, zero, suc, ◌+◌, ◌-◌, ◌^◌, ◌<◌, ◌/◌, ◌%◌, Bool, true, false, not, ◌&&◌, refl, ◌∙◌, ap, List, [], ◌∷◌, length, replicate, arith}
use Rattle.std.specs.Prelude.{nat_eq, min, bit_and, bit_xor, slice_index, if◌then◌else◌}
use Rattle.std.specs.Int.{bit_at}
use Rattle.std.specs.Simd.Lanes.{zip2}
use Rattle.std.proofs.lemmas.Simd.{get_or-zip2, get_or-replicate}
use Rattle.std.proofs.lemmas.Nat.Bits.{bit_at_and, bit_at_xor, bit_at_ones, bit_at-lt, bit_at-zero}
use Rattle.clause_core.specs.Satisfaction.{signed}
use Rattle.gates.specs.Meaning.{exactly_one}
use Rattle.lane_sim.specs.Lanes.{lane}

and_bits : (p q : ℕ) → p < 2 → q < 2 → nat_eq (min p q) 1 ≡ (nat_eq p 1 && nat_eq q 1)
and_bits zero zero h k = refl
and_bits zero (suc zero) h k = refl
and_bits (suc zero) zero h k = refl
and_bits (suc zero) (suc zero) h k = refl
and_bits (suc (suc p)) q h k = absurd (omega arith)
and_bits zero (suc (suc q)) h k = absurd (omega arith)
and_bits (suc zero) (suc (suc q)) h k = absurd (omega arith)

xor_bits : (p q : ℕ) → p < 2 → q < 2 → nat_eq ((p + q) % 2) 1 ≡ exactly_one (nat_eq p 1) (nat_eq q 1)
xor_bits zero zero h k = refl
xor_bits zero (suc zero) h k = refl
xor_bits (suc zero) zero h k = refl
xor_bits (suc zero) (suc zero) h k = refl
xor_bits (suc (suc p)) q h k = absurd (omega arith)
xor_bits zero (suc (suc q)) h k = absurd (omega arith)
xor_bits (suc zero) (suc (suc q)) h k = absurd (omega arith)

-- the number that a lane stands in
number_of : (j : ℕ) → j < 256 → j / 64 < 4
number_of j h = omega arith

pub lane_and : (a b : List ℕ) (j : ℕ) → length a ≡ 4 → length b ≡ 4 → j < 256 → lane (zip2 bit_and a b) j ≡ (lane a j && lane b j)
lane_and a b j la lb h =
    let k : j / 64 < 4 = number_of j h in
    let x = slice_index a (j / 64) in
    let y = slice_index b (j / 64) in
    ap (λ n. nat_eq (bit_at n (j % 64)) 1) (get_or-zip2 bit_and a b (j / 64) 0 0 0 (omega arith) (omega arith))
    ∙ ap (λ n. nat_eq n 1) (bit_at_and x y (j % 64))
    ∙ and_bits (bit_at x (j % 64)) (bit_at y (j % 64)) (bit_at-lt x (j % 64)) (bit_at-lt y (j % 64))

pub lane_xor : (a b : List ℕ) (j : ℕ) → length a ≡ 4 → length b ≡ 4 → j < 256 → lane (zip2 bit_xor a b) j ≡ exactly_one (lane a j) (lane b j)
lane_xor a b j la lb h =
    let k : j / 64 < 4 = number_of j h in
    let x = slice_index a (j / 64) in
    let y = slice_index b (j / 64) in
    ap (λ n. nat_eq (bit_at n (j % 64)) 1) (get_or-zip2 bit_xor a b (j / 64) 0 0 0 (omega arith) (omega arith))
    ∙ ap (λ n. nat_eq n 1) (bit_at_xor x y (j % 64))
    ∙ xor_bits (bit_at x (j % 64)) (bit_at y (j % 64)) (bit_at-lt x (j % 64)) (bit_at-lt y (j % 64))

-- a word of four equal numbers
lane_splat : (n j : ℕ) → j < 256 → lane (replicate 4 n) j ≡ nat_eq (bit_at n (j % 64)) 1
lane_splat n j h = ap (λ x. nat_eq (bit_at x (j % 64)) 1) (get_or-replicate 4 (j / 64) n 0 (number_of j h))

pub lane_ones : (j : ℕ) → j < 256 → lane (replicate 4 (2 ^ 64 - 1)) j ≡ true
lane_ones j h = lane_splat (2 ^ 64 - 1) j h ∙ ap (λ n. nat_eq n 1) (bit_at_ones 64 (j % 64) (omega arith))

pub lane_none : (j : ℕ) → j < 256 → lane (replicate 4 0) j ≡ false
lane_none j h = lane_splat 0 j h ∙ ap (λ n. nat_eq n 1) (bit_at-zero (j % 64))

-- one of two, where it is the other that is set
pub choose_by_xor : (c a b : Bool) → exactly_one b (c && exactly_one a b) ≡ (if c then a else b)
choose_by_xor true true true = refl
choose_by_xor true true false = refl
choose_by_xor true false true = refl
choose_by_xor true false false = refl
choose_by_xor false a true = refl
choose_by_xor false a false = refl

pub xor_true : (b : Bool) → exactly_one b true ≡ not b
xor_true true = refl
xor_true false = refl

pub xor_false : (b : Bool) → exactly_one b false ≡ b
xor_false true = refl
xor_false false = refl

-- the mask of a sign turns every bit, or none
pub mask_of : Bool → ℕ
mask_of s = if s then 2 ^ 64 - 1 else 0

lane_masked : (s : Bool) (word : List ℕ) (j : ℕ) → length word ≡ 4 → j < 256 → lane (zip2 bit_xor word (replicate 4 (mask_of s))) j ≡ signed s (lane word j)
unfolding mask_of
lane_masked true word j l h = lane_xor word (replicate 4 (2 ^ 64 - 1)) j l refl h ∙ ap (exactly_one (lane word j)) (lane_ones j h) ∙ xor_true (lane word j)
lane_masked false word j l h = lane_xor word (replicate 4 0) j l refl h ∙ ap (exactly_one (lane word j)) (lane_none j h) ∙ xor_false (lane word j)

pub lane_signed : (s : Bool) (word : List ℕ) (mask j : ℕ) → mask ≡ mask_of s → length word ≡ 4 → j < 256 → lane (zip2 bit_xor word (mask ∷ mask ∷ mask ∷ mask ∷ [])) j ≡ signed s (lane word j)
lane_signed s word mask j e l h = ap (λ m. lane (zip2 bit_xor word (replicate 4 m)) j) e ∙ lane_masked s word j l h

pub mask_of-true : (s : Bool) → s ≡ true → mask_of s ≡ 2 ^ 64 - 1
unfolding mask_of
mask_of-true s e = rw e refl

pub mask_of-false : (s : Bool) → s ≡ false → mask_of s ≡ 0
unfolding mask_of
mask_of-false s e = rw e refl
