-- Of ranges that are apart the one with the greatest low that is not above a high decides what meets them.
use Rattle.std.proofs.Common.{◌≡◌, Bool, true, false, cond, if◌then◌else◌, ◌⊎◌, inl, inr, List, [], ◌∷◌, ◌++◌, Option, Some, None, refl, sym, ap, ◌∙◌, arith, subst}
use Rattle.std.proofs.Math.IntN.{ℤ}
use Rattle.std.proofs.lemmas.Int.{ints}
use Rattle.std.proofs.lemmas.Cmp.{int_ranked}
use Rattle.std.proofs.lemmas.Bool.Decides.{Decides-int_eq}
use Rattle.std.specs.Prelude.{◌≤ℤ◌, ◌<ℤ◌, int_le, IsSome}
use Rattle.std.specs.Ordering.{MatchOrdering, int_cmp, int_eq, is_gt, is_lt}
use Rattle.std.specs.declared.cmp.Ordering.{Ordering}
use Rattle.std.specs.declared.cmp.Ordering.TheVariants.{Less, Equal, Greater}
use Rattle.std.specs.declared.ops.Bound.TheVariants.{Included, Unbounded}
use Rattle.std.specs.BTreeMap.{BTreeMap, Updates}
use Rattle.std.specs.BTreeMap.Range.{IsRangeOf}
use Rattle.std.proofs.lemmas.Bool.{and_parts, and_from, or_left, or_right, or_from, false_from_ne_true}
use Rattle.plc_types.specs.declared.range.Range.{Range}
use Rattle.plc_types.proofs.InRange.{le_from, le_to}
use Rattle.typing.specs.Labels.{meets, overlaps}
use Rattle.typing.specs.Seen.{high_at, AreApart, Keeps}

-- ---- the order of numbers

le_of : (r : Ordering) (x y : ℤ) → MatchOrdering r (x <ℤ y) (x ≡ y) (y <ℤ x) → is_gt r ≡ false → x ≤ℤ y
le_of Less x y h k = omega (arith, ints)
le_of Equal x y h k = omega (arith, ints)
le_of Greater x y h k = absurd (let e : ⊥ = cc in e)

ge_of : (r : Ordering) (x y : ℤ) → MatchOrdering r (x <ℤ y) (x ≡ y) (y <ℤ x) → is_lt r ≡ false → y ≤ℤ x
ge_of Less x y h k = absurd (let e : ⊥ = cc in e)
ge_of Equal x y h k = omega (arith, ints)
ge_of Greater x y h k = omega (arith, ints)

not_gt : (r : Ordering) (x y : ℤ) → MatchOrdering r (x <ℤ y) (x ≡ y) (y <ℤ x) → x ≤ℤ y → is_gt r ≡ false
not_gt Less x y h k = refl
not_gt Equal x y h k = refl
not_gt Greater x y h k = absurd (omega (arith, ints))

le_by : (x y : ℤ) → is_gt (int_cmp x y) ≡ false → x ≤ℤ y
le_by x y = le_of (int_cmp x y) x y (int_ranked x y (int_cmp x y) refl)

ge_by : (x y : ℤ) → is_lt (int_cmp x y) ≡ false → y ≤ℤ x
ge_by x y = ge_of (int_cmp x y) x y (int_ranked x y (int_cmp x y) refl)

gt_not : (x y : ℤ) → x ≤ℤ y → is_gt (int_cmp x y) ≡ false
gt_not x y = not_gt (int_cmp x y) x y (int_ranked x y (int_cmp x y) refl)

le_false : (x y : ℤ) → int_le x y ≡ false → y <ℤ x
le_false x y h = grind (arith, ints)

-- ---- ranges of a list

span : ℤ → ℤ → Range
span low high = record { low = low; high = high }

IsIn : Range → List Range → Type 0
IsIn s [] = ⊥
IsIn s (r ∷ rs) = (s ≡ r) ⊎ IsIn s rs

Meet : Range → Range → Type 0
Meet r s = (r.low ≤ℤ s.high) × (s.low ≤ℤ r.high)

meets_Meet : (r s : Range) → meets r s ≡ true → Meet r s
unfolding Meet
meets_Meet r s h =
    let two = and_parts (int_le r.low s.high) (int_le s.low r.high) h in
    (le_from r.low s.high two.0, le_from s.low r.high two.1)

Meet_meets : (r s : Range) → Meet r s → meets r s ≡ true
unfolding Meet
Meet_meets r s h = and_from (int_le r.low s.high) (int_le s.low r.high) (le_to r.low s.high h.0) (le_to s.low r.high h.1)

here_or_found : (b : Bool) (k v : ℤ) (r : Range) (rs : List Range) (rest : Option ℤ) → int_eq r.low k ≡ b → (rest ≡ Some v → IsIn (span k v) rs) → (if b then Some r.high else rest) ≡ Some v → IsIn (span k v) (r ∷ rs)
unfolding IsIn span
here_or_found true k v r rs rest e behind h =
    let low : r.low ≡ k = (Decides-int_eq r.low k).0 e in
    let high : r.high ≡ v = cc in
    inl (λ i. record { low = sym low i; high = sym high i })
here_or_found false k v r rs rest e behind h = inr (behind h)

-- what stands at a low is a range of the list
found : (k v : ℤ) (rs : List Range) → high_at k rs ≡ Some v → IsIn (span k v) rs
unfolding IsIn
found k v [] h = let e : ⊥ = cc in e
found k v (r ∷ rs) h = here_or_found (int_eq r.low k) k v r rs (high_at k rs) refl (found k v rs) h

here_or_some : (b : Bool) (v : ℤ) (rest : Option ℤ) → (b ≡ false → IsSome rest) → IsSome (if b then Some v else rest)
here_or_some true v rest behind = refl
here_or_some false v rest behind = behind refl

-- and something stands at the low of each
known : (s : Range) (rs : List Range) → IsIn s rs → IsSome (high_at s.low rs)
unfolding IsIn
known s [] none = absurd none
known s (r ∷ rs) (inl e) =
    here_or_some (int_eq r.low s.low) r.high (high_at s.low rs)
    (λ other. absurd (let same : int_eq r.low s.low ≡ true = (Decides-int_eq r.low s.low).1 (ap (λ (x : Range). x.low) (sym e)) in let z : ⊥ = cc in z))
known s (r ∷ rs) (inr i) = here_or_some (int_eq r.low s.low) r.high (high_at s.low rs) (λ other. known s rs i)

meets_one : (r s : Range) (rs : List Range) → IsIn s rs → Meet r s → overlaps rs r ≡ true
unfolding IsIn
meets_one r s [] none h = absurd none
meets_one r s (x ∷ rs) (inl e) h = or_left (meets r x) (overlaps rs r) (Meet_meets r x (subst (Meet r) e h))
meets_one r s (x ∷ rs) (inr i) h = or_right (meets r x) (overlaps rs r) (meets_one r s rs i h)

meets_none : (r : Range) (rs : List Range) → ((s : Range) → IsIn s rs → Meet r s → ⊥) → overlaps rs r ≡ false
unfolding IsIn
meets_none r [] none = refl
meets_none r (x ∷ rs) none =
    or_from (meets r x) (overlaps rs r) (false_from_ne_true (meets r x) (λ h. none x (inl refl) (meets_Meet r x h))) (meets_none r rs (λ s i. none s (inr i)))

Meet_back : (r s : Range) → Meet r s → Meet s r
unfolding Meet
Meet_back r s h = (h.1, h.0)

differ : (x t : Range) (rs : List Range) → overlaps rs x ≡ false → IsIn t rs → Meet x t → ⊥
differ x t rs none i h = let some = meets_one x t rs i h in let e : ⊥ = cc in e

-- two ranges that meet are one
same_range : (s t : Range) (rs : List Range) → AreApart rs → IsIn s rs → IsIn t rs → Meet s t → s ≡ t
unfolding IsIn
same_range s t [] apart none j h = absurd none
same_range s t (x ∷ rs) apart (inl e) (inl f) h = e ∙ sym f
same_range s t (x ∷ rs) apart (inl e) (inr j) h = absurd (differ x t rs apart.1 j (subst (λ (y : Range). Meet y t) e h))
same_range s t (x ∷ rs) apart (inr i) (inl f) h = absurd (differ x s rs apart.1 i (Meet_back s x (subst (Meet s) f h)))
same_range s t (x ∷ rs) apart (inr i) (inr j) h = same_range s t rs apart.2 i j h

in_order : (s : Range) (rs : List Range) → AreApart rs → IsIn s rs → s.low ≤ℤ s.high
unfolding IsIn
in_order s [] apart none = absurd none
in_order s (x ∷ rs) apart (inl e) = subst (λ (y : Range). y.low ≤ℤ y.high) (sym e) apart.0
in_order s (x ∷ rs) apart (inr i) = in_order s rs apart.2 i

-- ---- the one with the greatest low

-- no range with a low of at most k, the greatest, has a value from a low on where the range at k has none
none_behind : (r s : Range) (k v : ℤ) (rs : List Range) → AreApart rs → IsIn (span k v) rs → v <ℤ r.low → IsIn s rs → s.low ≤ℤ k → Meet r s → ⊥
unfolding Meet span
none_behind r s k v rs apart greatest short i low h =
    let order : k ≤ℤ v = in_order (span k v) rs apart greatest in
    let met : Meet s (span k v) = (omega (arith, ints), omega (arith, ints)) in
    let same : s ≡ span k v = same_range s (span k v) rs apart i greatest met in
    let high : s.high ≡ v = ap (λ (y : Range). y.high) same in
    omega (arith, ints)

decided : (b : Bool) (r : Range) (k v : ℤ) (rs : List Range) → int_le r.low v ≡ b → AreApart rs → high_at k rs ≡ Some v → k ≤ℤ r.high → ((q : ℤ) → q ≤ℤ r.high → IsSome (high_at q rs) → q ≤ℤ k)
    → b ≡ overlaps rs r
unfolding Meet span
decided true r k v rs test apart at within greatest =
    sym (meets_one r (span k v) rs (found k v rs at) (le_from r.low v test, within))
decided false r k v rs test apart at within greatest =
    sym (meets_none r rs (λ s i h. none_behind r s k v rs apart (found k v rs at) (le_false r.low v test) i (greatest s.low h.1 (known s rs i)) h))

-- what a map tells by its last entry up to a high
pub overlaps_some : (m : BTreeMap ℤ ℤ) (rs : List Range) (r : Range) (k v : ℤ) (t : List (ℤ × ℤ)) → IsRangeOf int_cmp Unbounded (Included r.high) m (t ++ (k, v) ∷ []) → Keeps m rs → int_le r.low v ≡ overlaps rs r
overlaps_some m rs r k v t range keeps =
    let last = range.3 (k, v) t refl in
    let greatest = range.4 (k, v) t refl in
    decided (int_le r.low v) r k v rs refl keeps.1 (sym (keeps.0 k) ∙ last.1) (le_by k r.high last.0.1)
    (λ q low some. ge_by k q (greatest q (tt, gt_not q r.high low) (subst (λ (o : Option ℤ). IsSome o) (sym (keeps.0 q)) some)))

pub overlaps_none : (m : BTreeMap ℤ ℤ) (rs : List Range) (r : Range) → IsRangeOf int_cmp Unbounded (Included r.high) m [] → Keeps m rs → false ≡ overlaps rs r
unfolding Meet
overlaps_none m rs r range keeps =
    sym (meets_none r rs (λ s i h.
    let none : high_at s.low rs ≡ None = sym (keeps.0 s.low) ∙ range.5 refl s.low (tt, gt_not s.low r.high h.1) in
    let some : IsSome {T = ℤ} None = subst (λ (o : Option ℤ). IsSome o) none (known s rs i) in
    let e : ⊥ = cc in e))

-- ---- one more

-- a range that meets none is one more
pub keeps_one_more : (old new : BTreeMap ℤ ℤ) (rs : List Range) (r : Range) → Updates int_cmp old new r.low (Some r.high) → r.low ≤ℤ r.high → overlaps rs r ≡ false → Keeps old rs → Keeps new (r ∷ rs)
keeps_one_more old new rs r updates order none keeps =
    (λ low. updates.0 low ∙ ap (λ (o : Option ℤ). cond (int_eq r.low low) (Some r.high) o) (keeps.0 low), (order, none, keeps.1))
