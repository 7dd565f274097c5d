-- The numbers of a width and sign, and ranges among them.
use Rattle.std.specs.Prelude.{ℕ, ◌-◌, ◌^◌, Bool, true, false, ℤ, pos, neg_ℤ, ◌≤ℤ◌}

-- the least number of w bits, in two's complement if signed
abbrev pub lowest : ℕ → Bool → ℤ
lowest w true = neg_ℤ (pos (2 ^ (w - 1)))
lowest w false = pos 0

-- the greatest number of w bits
abbrev pub highest : ℕ → Bool → ℤ
highest w true = pos (2 ^ (w - 1) - 1)
highest w false = pos (2 ^ w - 1)

-- v lies in the range from lo to hi
abbrev pub Fits : ℤ → ℤ → ℤ → Type 0
Fits lo hi v = (lo ≤ℤ v) × (v ≤ℤ hi)
