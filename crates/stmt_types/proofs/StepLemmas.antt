-- The turns of a FOR by one division, and their values by the first and the one that ends it.
use Rattle.std.proofs.Common.{◌≡◌, ℕ, zero, suc, ◌+◌, ◌*◌, ◌/◌, ◌%◌, ◌<◌, Bool, true, false, ◌&&◌, if◌then◌else◌, ◌⊎◌, inl, inr, ◌↔◌, ◌≤◌, min, refl, sym, ap, ◌∙◌, arith, rules, tests}
use Rattle.std.proofs.Math.IntN.{ℤ, pos, negsuc, neg_ℤ, suc_ℤ-*ℤ, pos-*ℤ-pos, pos-*ℤ-negsuc}
use Rattle.std.proofs.Math.Nat.{suc-mul, le-div_iff_mul-le}
use Rattle.std.proofs.lemmas.Bool.{false≢true}
use Rattle.std.proofs.lemmas.Int.{ints}
use Rattle.std.specs.Prelude.{◌+ℤ◌, ◌-ℤ◌, ◌*ℤ◌, ◌≤ℤ◌, ◌<ℤ◌, int_le, int_lt, nat_le, unsigned_abs, ◌≢◌}
use Rattle.plc_types.specs.declared.range.Range.{Range}
use Rattle.plc_types.specs.Types.{in_range}
use Rattle.plc_types.proofs.InRange.{le_from, le_to, bounds, between}
use Rattle.typing.specs.Constants.{goes_on, turns_within, turn_count, are_in_range}
use Rattle.stmt_types.specs.Steps.{steps_within}

le_false : (x y : ℤ) → y <ℤ x → int_le x y ≡ false
le_false x y h = grind (arith, ints)

-- ---- the direction of a step

going_up : (v last : ℤ) (s : ℕ) → 0 < s → goes_on v last (pos s) ≡ int_le v last
going_up v last s some = let e : int_lt (pos 0) (pos s) ≡ true = grind (arith, ints) in ap (λ (b : Bool). if b then int_le v last else int_le last v) e

going_down : (v last : ℤ) (k : ℕ) → goes_on v last (negsuc k) ≡ int_le last v
going_down v last k = let e : int_lt (pos 0) (negsuc k) ≡ false = grind (arith, ints) in ap (λ (b : Bool). if b then int_le v last else int_le last v) e

pub same_distance : (x y z w : ℤ) → x ≡ z → y ≡ w → unsigned_abs (x -ℤ y) ≡ unsigned_abs (z -ℤ w)
same_distance x y z w h k = rw (h, k) refl

pub same_going : (v w last end step by : ℤ) → v ≡ w → last ≡ end → step ≡ by → goes_on v last step ≡ goes_on w end by
same_going v w last end step by h k l = rw (h, k, l) refl

-- ---- how many turns there are

one_more : (b : ℕ) (v last step : ℤ) → goes_on v last step ≡ true → turns_within (suc b) v last step ≡ suc (turns_within b (v +ℤ step) last step)
unfolding turns_within
one_more b v last step h = rw h refl

no_more : (b : ℕ) (v last step : ℤ) → goes_on v last step ≡ false → turns_within b v last step ≡ 0
unfolding turns_within
no_more zero v last step h = refl
no_more (suc b) v last step h = rw h refl

-- q steps from a value, and less than one more, lead to the last one
up : (b q m s : ℕ) (v last : ℤ) → m < s → last ≡ v +ℤ pos (q * s + m) → turns_within b v last (pos s) ≡ min b (suc q)
unfolding turns_within
up zero q m s v last within is = let e : 0 ≡ min 0 (suc q) = omega arith in e
up (suc b) zero m s v last within is =
    one_more b v last (pos s) (going_up v last s (omega arith) ∙ le_to v last (omega (arith, ints)))
    ∙ ap suc (no_more b (v +ℤ pos s) last (pos s) (going_up (v +ℤ pos s) last s (omega arith) ∙ le_false (v +ℤ pos s) last (omega (arith, ints)))) ∙ omega arith
up (suc b) (suc q) m s v last within is =
    let e : suc q * s ≡ q * s + s = suc-mul q s in
    one_more b v last (pos s) (going_up v last s (omega arith) ∙ le_to v last (omega (arith, ints)))
    ∙ ap suc (up b q m s (v +ℤ pos s) last within (omega (arith, ints))) ∙ omega arith

down : (b q m k : ℕ) (v last : ℤ) → m < suc k → v ≡ last +ℤ pos (q * suc k + m) → turns_within b v last (negsuc k) ≡ min b (suc q)
unfolding turns_within
down zero q m k v last within is = let e : 0 ≡ min 0 (suc q) = omega arith in e
down (suc b) zero m k v last within is =
    one_more b v last (negsuc k) (going_down v last k ∙ le_to last v (omega (arith, ints)))
    ∙ ap suc (no_more b (v +ℤ negsuc k) last (negsuc k) (going_down (v +ℤ negsuc k) last k ∙ le_false last (v +ℤ negsuc k) (omega (arith, ints)))) ∙ omega arith
down (suc b) (suc q) m k v last within is =
    let e : suc q * suc k ≡ q * suc k + suc k = suc-mul q (suc k) in
    one_more b v last (negsuc k) (going_down v last k ∙ le_to last v (omega (arith, ints)))
    ∙ ap suc (down b q m k (v +ℤ negsuc k) last within (omega (arith, ints))) ∙ omega arith

abs_up : (x : ℤ) → pos 0 ≤ℤ x → pos (unsigned_abs x) ≡ x
abs_up (pos n) h = refl
abs_up (negsuc n) h = absurd (omega (arith, ints))

abs_down : (x : ℤ) → x ≤ℤ pos 0 → x +ℤ pos (unsigned_abs x) ≡ pos 0
abs_down (pos n) h = omega (arith, ints)
abs_down (negsuc n) h = omega (arith, ints)

divided : (n s : ℕ) → 0 < s → n ≡ n / s * s + n % s
divided n s some = grind arith

next : (q : ℕ) → min 4097 (suc q) ≡ min 4097 (q + 1)
next q = let e : suc q ≡ q + 1 = omega arith in ap (min 4097) e

-- the steps to the last value, and the first turn
pub turns_by_division : (first last step : ℤ) → goes_on first last step ≡ true → step ≢ pos 0 → turn_count first last step ≡ min 4097 (unsigned_abs (last -ℤ first) / unsigned_abs step + 1)
unfolding turn_count
turns_by_division first last (pos zero) on some = absurd (some refl)
turns_by_division first last (pos (suc k)) on some =
    let n = unsigned_abs (last -ℤ first) in
    let order : first ≤ℤ last = le_from first last (sym (going_up first last (suc k) (omega arith)) ∙ on) in
    let far : pos n ≡ last -ℤ first = abs_up (last -ℤ first) (omega (arith, ints)) in
    let parts : n ≡ n / suc k * suc k + n % suc k = divided n (suc k) (omega arith) in
    up 4097 (n / suc k) (n % suc k) (suc k) first last (omega arith) (omega (arith, ints)) ∙ next (n / suc k)
turns_by_division first last (negsuc k) on some =
    let n = unsigned_abs (last -ℤ first) in
    let order : last ≤ℤ first = le_from last first (sym (going_down first last k) ∙ on) in
    let far : last -ℤ first +ℤ pos n ≡ pos 0 = abs_down (last -ℤ first) (omega (arith, ints)) in
    let parts : n ≡ n / suc k * suc k + n % suc k = divided n (suc k) (omega arith) in
    down 4097 (n / suc k) (n % suc k) k first last (omega arith) (omega (arith, ints)) ∙ next (n / suc k)

pub no_turns : (first last step : ℤ) → goes_on first last step ≡ false → turn_count first last step ≡ 0
unfolding turn_count
no_turns first last step h = no_more 4097 first last step h

stays : (b : ℕ) (v last : ℤ) → goes_on v last (pos 0) ≡ true → turns_within b v last (pos 0) ≡ b
unfolding turns_within
stays zero v last h = refl
stays (suc b) v last h =
    let same : v +ℤ pos 0 ≡ v = omega (arith, ints) in
    one_more b v last (pos 0) h ∙ ap suc (stays b (v +ℤ pos 0) last (ap (λ (x : ℤ). goes_on x last (pos 0)) same ∙ h))

pub turns_without_step : (first last step : ℤ) → goes_on first last step ≡ true → step ≡ pos 0 → turn_count first last step ≡ 4097
unfolding turn_count
turns_without_step first last step on none = ap (turns_within 4097 first last) none ∙ stays 4097 first last (ap (goes_on first last) (sym none) ∙ on)

-- ---- the values of turns

-- of three values in one direction, the middle one is in a range where the others are
middle : (x y z : Bool) → (x ≡ true → z ≡ true → y ≡ true) → (x && (y && z)) ≡ (x && z)
middle false y z h = refl
middle true true z h = refl
middle true false true h = absurd (let e : false ≡ true = h refl refl in let z : ⊥ = cc in z)
middle true false false h = refl

in_one_direction : (c : ℕ) (v step : ℤ) → ((v ≤ℤ (v +ℤ step)) × ((v +ℤ step) ≤ℤ ((v +ℤ step) +ℤ (pos c *ℤ step)))) ⊎ ((((v +ℤ step) +ℤ (pos c *ℤ step)) ≤ℤ (v +ℤ step)) × ((v +ℤ step) ≤ℤ v))
in_one_direction c v (pos s) =
    let e : pos c *ℤ pos s ≡ pos (c * s) = pos-*ℤ-pos c s in
    inl (omega (arith, ints), omega (arith, ints))
in_one_direction c v (negsuc k) =
    let e : pos c *ℤ negsuc k ≡ neg_ℤ (pos (c * suc k)) = pos-*ℤ-negsuc c k in
    inr (omega (arith, ints), omega (arith, ints))

twice : (b : Bool) → b ≡ (b && b)
twice true = refl
twice false = refl

-- the values of all turns are in a range where the first and the one that ends the FOR are
by_ends : (count : ℕ) (v step : ℤ) (r : Range) → (in_range v r && in_range (v +ℤ (pos count *ℤ step)) r) ≡ are_in_range count v step r
by_ends zero v step r =
    let none : pos 0 *ℤ step ≡ pos 0 = omega (arith, ints) in
    let e : v +ℤ (pos 0 *ℤ step) ≡ v = omega (arith, ints) in
    ap (λ (x : ℤ). in_range v r && in_range x r) e ∙ sym (twice (in_range v r))
by_ends (suc count) v step r =
    let one : pos (suc count) *ℤ step ≡ (pos count *ℤ step) +ℤ step = suc_ℤ-*ℤ (pos count) step in
    let e : v +ℤ (pos (suc count) *ℤ step) ≡ (v +ℤ step) +ℤ (pos count *ℤ step) = omega (arith, ints) in
    ap (λ (x : ℤ). in_range v r && in_range x r) e
    ∙ sym (middle (in_range v r) (in_range (v +ℤ step) r) (in_range ((v +ℤ step) +ℤ (pos count *ℤ step)) r) (between v (v +ℤ step) ((v +ℤ step) +ℤ (pos count *ℤ step)) r (in_one_direction count v step)))
    ∙ ap (λ (b : Bool). in_range v r && b) (by_ends count (v +ℤ step) step r)

-- ---- steps up to an end

same_tests : (a b : Bool) → (a ≡ true → b ≡ true) → (b ≡ true → a ≡ true) → a ≡ b
same_tests true b to from = sym (to refl)
same_tests false true to from = absurd (false≢true (from refl))
same_tests false false to from = refl

-- n steps stay where n times their size is no more than what is left
many_fit : (n size left : ℕ) (x y : ℤ) → 0 < size → pos left ≡ y -ℤ x → nat_le n (left / size) ≡ int_le (x +ℤ pos (n * size)) y
many_fit n size left x y some is =
    let fits : (n ≤ left / size) ↔ (n * size ≤ left) = le-div_iff_mul-le some in
    same_tests (nat_le n (left / size)) (int_le (x +ℤ pos (n * size)) y)
    (λ h. let below : n ≤ left / size = search (rules, tests, arith) in let most : n * size ≤ left = fits.0 below in le_to (x +ℤ pos (n * size)) y (omega (arith, ints)))
    (λ h. let below : (x +ℤ pos (n * size)) ≤ℤ y = le_from (x +ℤ pos (n * size)) y h in let most : n ≤ left / size = fits.1 (omega (arith, ints)) in search (rules, tests, arith))

-- from a value of a range, so many steps up stay in it where they do not pass its high
up_in : (n s : ℕ) (v : ℤ) (r : Range) → 0 < s → in_range v r ≡ true → nat_le n (steps_within v (pos s) r) ≡ in_range (v +ℤ (pos n *ℤ pos s)) r
up_in n s v r some is =
    let b = bounds v r is in
    let up : int_lt (pos 0) (pos s) ≡ true = grind (arith, ints) in
    let e : pos n *ℤ pos s ≡ pos (n * s) = pos-*ℤ-pos n s in
    let left : pos (unsigned_abs (r.high -ℤ v)) ≡ r.high -ℤ v = abs_up (r.high -ℤ v) (omega (arith, ints, b.1)) in
    let low : int_le r.low (v +ℤ pos (n * s)) ≡ true = le_to r.low (v +ℤ pos (n * s)) (omega (arith, ints, b.0)) in
    ap (λ (b : Bool). nat_le n (unsigned_abs ((if b then r.high else r.low) -ℤ v) / s)) up
    ∙ many_fit n s (unsigned_abs (r.high -ℤ v)) v r.high some left
    ∙ ap (λ (b : Bool). b && int_le (v +ℤ pos (n * s)) r.high) (sym low)
    ∙ ap (λ (x : ℤ). in_range (v +ℤ x) r) (sym e)

-- and so many steps down where they do not pass its low
down_in : (n k : ℕ) (v : ℤ) (r : Range) → in_range v r ≡ true → nat_le n (steps_within v (negsuc k) r) ≡ in_range (v +ℤ (pos n *ℤ negsuc k)) r
down_in n k v r is =
    let b = bounds v r is in
    let down : int_lt (pos 0) (negsuc k) ≡ false = grind (arith, ints) in
    let e : pos n *ℤ negsuc k ≡ neg_ℤ (pos (n * suc k)) = pos-*ℤ-negsuc n k in
    let size = unsigned_abs (r.low -ℤ v) in
    let none : r.low -ℤ v +ℤ pos size ≡ pos 0 = abs_down (r.low -ℤ v) (omega (arith, ints, b.0)) in
    let left : pos size ≡ v -ℤ r.low = omega (arith, ints) in
    let high : int_le (v +ℤ neg_ℤ (pos (n * suc k))) r.high ≡ true = le_to (v +ℤ neg_ℤ (pos (n * suc k))) r.high (omega (arith, ints, b.1)) in
    ap (λ (b : Bool). nat_le n (unsigned_abs ((if b then r.high else r.low) -ℤ v) / suc k)) down
    ∙ many_fit n (suc k) size r.low v (omega arith) left
    ∙ moved r.low v (n * suc k)
    ∙ and_true (int_le r.low (v +ℤ neg_ℤ (pos (n * suc k))))
    ∙ ap (λ (b : Bool). int_le r.low (v +ℤ neg_ℤ (pos (n * suc k))) && b) (sym high)
    ∙ ap (λ (x : ℤ). in_range (v +ℤ x) r) (sym e)
  where
    moved : (x y : ℤ) (p : ℕ) → int_le (x +ℤ pos p) y ≡ int_le x (y +ℤ neg_ℤ (pos p))
    moved x y p =
        same_tests (int_le (x +ℤ pos p) y) (int_le x (y +ℤ neg_ℤ (pos p)))
        (λ h. let order : (x +ℤ pos p) ≤ℤ y = le_from (x +ℤ pos p) y h in le_to x (y +ℤ neg_ℤ (pos p)) (omega (arith, ints)))
        (λ h. let order : x ≤ℤ (y +ℤ neg_ℤ (pos p)) = le_from x (y +ℤ neg_ℤ (pos p)) h in le_to (x +ℤ pos p) y (omega (arith, ints)))

    and_true : (b : Bool) → b ≡ (b && true)
    and_true true = refl
    and_true false = refl

-- the values of all turns are in a range where the first is, and there are so many steps from it on
pub by_steps : (count : ℕ) (v step : ℤ) (r : Range) → step ≢ pos 0 → (in_range v r && nat_le count (steps_within v step r)) ≡ are_in_range count v step r
by_steps count v step r some = test (in_range v r) (nat_le count (steps_within v step r)) (in_range (v +ℤ (pos count *ℤ step)) r) (λ is. in_direction step some is) ∙ by_ends count v step r
  where
    test : (x a b : Bool) → (x ≡ true → a ≡ b) → (x && a) ≡ (x && b)
    test false a b h = refl
    test true a b h = h refl

    in_direction : (step : ℤ) → step ≢ pos 0 → in_range v r ≡ true → nat_le count (steps_within v step r) ≡ in_range (v +ℤ (pos count *ℤ step)) r
    in_direction (pos zero) some is = absurd (some refl)
    in_direction (pos (suc k)) some is = up_in count (suc k) v r (omega arith) is
    in_direction (negsuc k) some is = down_in count k v r is
