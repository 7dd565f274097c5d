-- The test of a range as two orders, and ranges in ranges.
use Rattle.std.proofs.Common.{◌≡◌, ◌⊎◌, inl, inr, true, not, ◌&&◌, ◌||◌, ℤ, arith, rules, tests}
use Rattle.std.specs.Prelude.{◌≤ℤ◌, int_le, int_lt}
use Rattle.std.proofs.lemmas.Int.{ints}
use Rattle.plc_types.specs.declared.range.Range.{Range}
use Rattle.plc_types.specs.Types.{in_range}

-- ---- the test taken apart and put together

pub le_from : (x y : ℤ) → int_le x y ≡ true → x ≤ℤ y
le_from x y h = search (rules, tests, ints)

pub le_to : (x y : ℤ) → x ≤ℤ y → int_le x y ≡ true
le_to x y h = search (rules, tests, ints)

-- a value that is in a range lies between its ends
pub bounds : (v : ℤ) (r : Range) → in_range v r ≡ true → (r.low ≤ℤ v) × (v ≤ℤ r.high)
bounds v r h = search (rules, tests, ints)

-- and one that lies between them is in the range
pub within : (v low high : ℤ) → low ≤ℤ v → v ≤ℤ high → in_range v (record { low = low; high = high }) ≡ true
within v low high p q = search (rules, tests, ints)

pub in_range_from : (v : ℤ) (r : Range) → r.low ≤ℤ v → v ≤ℤ r.high → in_range v r ≡ true
in_range_from v r p q = search (rules, tests, ints)

-- what is outside, by the two orders that do not hold
pub not_between : (v low high : ℤ) → (int_lt v low || int_lt high v) ≡ not (int_le low v && int_le v high)
not_between v low high = search (rules, tests, ints)

-- ---- ranges in ranges: that one covers another is tested by the two orders of their ends

-- what is in a range is in each that covers it
pub covers_in : (r t : Range) (v : ℤ) → int_le r.low t.low && int_le t.high r.high ≡ true → in_range v t ≡ true → in_range v r ≡ true
covers_in r t v h is =
    let b = bounds v t is in
    let c : (r.low ≤ℤ t.low) × (t.high ≤ℤ r.high) = search (rules, tests, ints) in
    in_range_from v r (omega (arith, ints)) (omega (arith, ints))

pub covers_from : (r t : Range) → r.low ≤ℤ t.low → t.high ≤ℤ r.high → int_le r.low t.low && int_le t.high r.high ≡ true
covers_from r t p q = search (rules, tests, ints)

pub covers_self : (r : Range) → int_le r.low r.low && int_le r.high r.high ≡ true
covers_self r = covers_from r r (omega (arith, ints)) (omega (arith, ints))

pub covers_then : (r s t : Range) → int_le r.low s.low && int_le s.high r.high ≡ true → int_le s.low t.low && int_le t.high s.high ≡ true → int_le r.low t.low && int_le t.high r.high ≡ true
covers_then r s t h k =
    let a : (r.low ≤ℤ s.low) × (s.high ≤ℤ r.high) = search (rules, tests, ints) in
    let b : (s.low ≤ℤ t.low) × (t.high ≤ℤ s.high) = search (rules, tests, ints) in
    covers_from r t (omega (arith, ints)) (omega (arith, ints))

-- a range covers one whose ends it has
pub covers_both : (r t : Range) → in_range t.low r ≡ true → in_range t.high r ≡ true → int_le r.low t.low && int_le t.high r.high ≡ true
covers_both r t low high = covers_from r t (bounds t.low r low).0 (bounds t.high r high).1

-- between two numbers of a range
pub between_in : (r t : Range) (v : ℤ) → in_range t.low r ≡ true → in_range t.high r ≡ true → in_range v t ≡ true → in_range v r ≡ true
between_in r t v low high is = covers_in r t v (covers_both r t low high) is

-- the same for three numbers in one direction
pub between : (a b c : ℤ) (r : Range) → ((a ≤ℤ b) × (b ≤ℤ c)) ⊎ ((c ≤ℤ b) × (b ≤ℤ a)) → in_range a r ≡ true → in_range c r ≡ true → in_range b r ≡ true
between a b c r (inl order) first last = between_in r (record { low = a; high = c }) b first last (within b a c order.0 order.1)
between a b c r (inr order) first last = between_in r (record { low = c; high = a }) b last first (within b c a order.0 order.1)

-- the low end of a range that is not empty
pub low_in : (low high : ℤ) → int_le low high ≡ true → in_range low (record { low = low; high = high }) ≡ true
low_in low high test = within low low high (omega (arith, ints)) (le_from low high test)
