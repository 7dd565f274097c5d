-- Wrapping: what is left of a number when it is kept in a width and sign.
use Rattle.std.specs.Prelude.{◌≡◌, ℕ, ◌^◌, Bool, ℤ, pos, ◌+ℤ◌, ◌-ℤ◌, ◌*ℤ◌}
use Rattle.std.specs.Int.{int_rem_euclid}
use Rattle.num_core.specs.Ranges.{lowest, highest, Fits}

-- a and b differ by a multiple of m
abbrev pub DiffersByMultiple : ℤ → ℤ → ℤ → Type 0
DiffersByMultiple m a b = (k : ℤ) × (a ≡ (b +ℤ (k *ℤ m)))

-- n is a number of that width and sign, and differs from v by a multiple of 2 to the width
pub record Wraps (w : ℕ) (signed : Bool) (v n : ℤ) : Type 0 where
  pub in_range : Fits (lowest w signed) (highest w signed) n
  pub by_multiple : DiffersByMultiple (pos (2 ^ w)) v n

-- the number that wraps v: the least one, and what v is above it, modulo 2 to the width
abbrev pub wrap : ℕ → Bool → ℤ → ℤ
wrap w signed v =
    let least = lowest w signed in
    least +ℤ int_rem_euclid (v -ℤ least) (pos (2 ^ w))
