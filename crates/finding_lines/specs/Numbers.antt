-- Which numbers stand in a finding.
use Rattle.std.specs.Prelude.{ℕ, ◌<◌, ◌^◌, ℤ, pos, neg_ℤ, ◌≤ℤ◌, ◌<ℤ◌, List, All}

-- one of 64 bits, with its sign or without one
pub record IsNumber (n : ℤ) : Type 0 where
  pub from : neg_ℤ (pos (2 ^ 63)) ≤ℤ n
  pub below : n <ℤ pos (2 ^ 64)

-- the digits of such a number spell less than this
abbrev pub IsMagnitude : ℕ → Type 0
IsMagnitude n = n < 2 ^ 64

abbrev pub AreNumbers : List ℤ → Type 0
AreNumbers ns = All IsNumber ns
