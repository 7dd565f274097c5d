-- The values of elementary types: 0 is one, a wrapped number is one, and one that is wrapped stays. Those of an enumeration are in USINT's.
use Rattle.std.proofs.Common.{◌≡◌, ◌⊎◌, inl, inr, ℕ, zero, suc, ◌^◌, ◌<◌, ◌≤◌, ◌&&◌, true, refl, ℤ, pos, negsuc, arith, rules, tests}
use Rattle.std.specs.Prelude.{nat_lt, int_le}
use Rattle.std.proofs.lemmas.Int.{ints}
use Rattle.num_core.specs.Ranges.{Fits}
use Rattle.num_core.specs.Wrapping.{DiffersByMultiple}
use Rattle.num_core.proofs.Ranges.{zero_fits, lowest_fits, highest_fits, wrap_fits, wrap_differs, wrap_kept, wrap_zero, wrap_twice}
use Rattle.plc_types.specs.declared.elementary.Elementary.{Elementary}
use Rattle.plc_types.specs.declared.elementary.Elementary.TheVariants as types
use Rattle.plc_types.specs.Types.{width_of, is_signed, least_of, greatest_of, range_of, in_range, wrap_to}
use Rattle.plc_types.proofs.Widths.{some_bits}
use Rattle.plc_types.proofs.InRange.{bounds, within, in_range_from, covers_from}

-- ---- numbers of a type

-- a value of a type as a number of its width and sign
pub fits_of : (t : Elementary) (v : ℤ) → in_range v (range_of t) ≡ true → Fits (least_of t) (greatest_of t) v
fits_of t v h = bounds v (range_of t) h

pub of_fits : (t : Elementary) (v : ℤ) → Fits (least_of t) (greatest_of t) v → in_range v (range_of t) ≡ true
of_fits t v h = in_range_from v (range_of t) h.0 h.1

pub zero_fits_type : (t : Elementary) → Fits (least_of t) (greatest_of t) (pos 0)
zero_fits_type t = zero_fits (width_of t) (is_signed t)

pub zero_in : (t : Elementary) → in_range (pos 0) (range_of t) ≡ true
zero_in t = of_fits t (pos 0) (zero_fits_type t)

pub least_in : (t : Elementary) → in_range (least_of t) (range_of t) ≡ true
least_in t = of_fits t (least_of t) (lowest_fits (width_of t) (is_signed t))

pub greatest_in : (t : Elementary) → in_range (greatest_of t) (range_of t) ≡ true
greatest_in t = of_fits t (greatest_of t) (highest_fits (width_of t) (is_signed t))

-- ---- wrapping

pub wrapped_in : (t : Elementary) (v : ℤ) → in_range (wrap_to t v) (range_of t) ≡ true
wrapped_in t v = of_fits t (wrap_to t v) (wrap_fits (width_of t) (is_signed t) v (some_bits t))

pub wrapped_differs : (t : Elementary) (v : ℤ) → DiffersByMultiple (pos (2 ^ width_of t)) v (wrap_to t v)
wrapped_differs t v = wrap_differs (width_of t) (is_signed t) v (some_bits t)

-- a value of a type is wrapped to itself
pub wrapped_same : (t : Elementary) (v : ℤ) → in_range v (range_of t) ≡ true → wrap_to t v ≡ v
wrapped_same t v h = wrap_kept (width_of t) (is_signed t) v (some_bits t) (fits_of t v h)

pub wrapped_zero : (t : Elementary) → wrap_to t (pos 0) ≡ pos 0
wrapped_zero t = wrap_zero (width_of t) (is_signed t) (some_bits t)

pub wrapped_twice : (t : Elementary) (v : ℤ) → wrap_to t (wrap_to t v) ≡ wrap_to t v
wrapped_twice t v = wrap_twice (width_of t) (is_signed t) v (some_bits t)

-- ---- BOOL

-- a value of BOOL is 0 or 1
pub zero_or_one : (v : ℤ) → in_range v (range_of types.Bool) ≡ true → (v ≡ pos 0) ⊎ (v ≡ pos 1)
zero_or_one (pos zero) h = inl refl
zero_or_one (pos (suc zero)) h = inr refl
zero_or_one (pos (suc (suc n))) h = let b = bounds (pos (suc (suc n))) (range_of types.Bool) h in absurd (omega (arith, ints, b.1))
zero_or_one (negsuc n) h = let b = bounds (negsuc n) (range_of types.Bool) h in absurd (omega (arith, ints, b.0))

-- ---- enumerations

-- the number of a value, among the numbers from 0 to that of the last
pub value_in : (n last : ℕ) → n ≤ last → in_range (pos n) (record { low = pos 0; high = pos last }) ≡ true
value_in n last low = within (pos n) (pos 0) (pos last) (omega (arith, ints)) (omega (arith, ints))

pub first_in : (last : ℕ) → in_range (pos 0) (record { low = pos 0; high = pos last }) ≡ true
first_in last = value_in 0 last (omega arith)

-- at most 256 values have numbers of USINT
pub few_in : (n : ℕ) → nat_lt n 256 ≡ true → in_range (pos n) (range_of types.Usint) ≡ true
few_in n test = let few : n < 256 = search (rules, tests, arith) in within (pos n) (pos 0) (pos 255) (omega (arith, ints)) (omega (arith, ints))

pub usint_covers : (v : ℤ) → in_range v (range_of types.Usint) ≡ true → int_le (least_of types.Usint) (pos 0) && int_le v (greatest_of types.Usint) ≡ true
usint_covers v h = covers_from (range_of types.Usint) (record { low = pos 0; high = v }) (omega (arith, ints)) (bounds v (range_of types.Usint) h).1
