-- The values of a FOR's control variable lie between the first and the last of them.
use Rattle.std.proofs.Common.{◌≡◌, ℕ, zero, suc, Bool, true, false, ◌&&◌, ◌||◌, ℤ, pos, ◌+ℤ◌, ◌*ℤ◌, ◌≤ℤ◌, refl, arith}
use Rattle.std.proofs.lemmas.Bool.{and_parts, and_from}
use Rattle.std.proofs.Math.IntN.{suc_ℤ-*ℤ}
use Rattle.std.proofs.lemmas.Int.{ints, by_lt_z}
use Rattle.plc_types.specs.declared.range.Range.{Range}
use Rattle.plc_types.specs.Types.{in_range}
use Rattle.plc_types.proofs.InRange.{bounds, in_range_from}

-- the value with which so many turns end, and a turn more
one_more : (n : ℕ) (step : ℤ) → pos (suc n) *ℤ step ≡ pos n *ℤ step +ℤ step
one_more n step = suc_ℤ-*ℤ (pos n) step

rising : (n : ℕ) (step : ℤ) → pos 0 ≤ℤ step → pos 0 ≤ℤ (pos n *ℤ step)
rising zero step h = omega (arith, ints)
rising (suc n) step h = let more = one_more n step in let sofar = rising n step h in omega (arith, ints)

falling : (n : ℕ) (step : ℤ) → step ≤ℤ pos 0 → (pos n *ℤ step) ≤ℤ pos 0
falling zero step h = omega (arith, ints)
falling (suc n) step h = let more = one_more n step in let sofar = falling n step h in omega (arith, ints)

abbrev pub stay_from : ℕ → ℤ → ℤ → Range → Bool
stay_from n v step r = in_range v r && in_range (v +ℤ pos n *ℤ step) r

stay-later : (n : ℕ) (v step : ℤ) (r : Range) → stay_from (suc n) v step r ≡ true → stay_from n (v +ℤ step) step r ≡ true
stay-later n v step r h =
    let parts = and_parts _ _ h in
    let start = bounds v r parts.0 in
    let end = bounds (v +ℤ pos (suc n) *ℤ step) r parts.1 in
    let more = one_more n step in
    by_lt_z step (pos 0)
    (λ down. let sofar = falling n step (omega (arith, ints)) in and_from _ _ (in_range_from (v +ℤ step) r (omega (arith, ints)) (omega (arith, ints))) (in_range_from (v +ℤ step +ℤ pos n *ℤ step) r (omega (arith, ints)) (omega (arith, ints))))
    (λ up. let sofar = rising n step up in and_from _ _ (in_range_from (v +ℤ step) r (omega (arith, ints)) (omega (arith, ints))) (in_range_from (v +ℤ step +ℤ pos n *ℤ step) r (omega (arith, ints)) (omega (arith, ints))))

-- where they need lie there only unless a test says so
pub tested_fits : (t a b : Bool) → (t || a) ≡ true → (a ≡ true → b ≡ true) → (t || b) ≡ true
tested_fits true a b h keeps = refl
tested_fits false a b h keeps = keeps h

pub first-fits : (t : Bool) (n : ℕ) (v step : ℤ) (r : Range) → (t || stay_from n v step r) ≡ true → (t || in_range v r) ≡ true
first-fits true n v step r h = refl
first-fits false n v step r h = (and_parts _ _ h).0

pub later-fit : (t : Bool) (n : ℕ) (v step : ℤ) (r : Range) → (t || stay_from (suc n) v step r) ≡ true → (t || stay_from n (v +ℤ step) step r) ≡ true
later-fit true n v step r h = refl
later-fit false n v step r h = stay-later n v step r h
