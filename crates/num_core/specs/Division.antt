-- Division that truncates toward zero.
use Rattle.std.specs.Prelude.{◌≡◌, ◌<◌, zero, ℤ, pos, ◌+ℤ◌, ◌*ℤ◌, ◌<ℤ◌, unsigned_abs, ◌⊎◌, ◌↔◌, Option, Some, None, int_div, int_rem}

-- r is zero or of a's sign
abbrev pub IsZeroOrOfSign : ℤ → ℤ → Type 0
IsZeroOrOfSign a r = (r ≡ pos 0) ⊎ ((r <ℤ pos 0) ↔ (a <ℤ pos 0))

-- a is q times b and r over, where r is nearer to zero than b, and zero or of a's sign
pub record Divides (a b q r : ℤ) : Type 0 where
  pub whole : a ≡ ((q *ℤ b) +ℤ r)
  pub near : unsigned_abs r < unsigned_abs b
  pub sign : IsZeroOrOfSign a r

-- q is the quotient of a by b
abbrev pub IsQuotient : ℤ → ℤ → ℤ → Type 0
IsQuotient a b q = (r : ℤ) × Divides a b q r

-- r is the remainder of a by b
abbrev pub IsRemainder : ℤ → ℤ → ℤ → Type 0
IsRemainder a b r = (q : ℤ) × Divides a b q r

-- the quotient, where there is one
abbrev pub quot : ℤ → ℤ → Option ℤ
quot a (pos zero) = None
quot a b = Some (int_div a b)

-- the remainder, where there is one
abbrev pub rem : ℤ → ℤ → Option ℤ
rem a (pos zero) = None
rem a b = Some (int_rem a b)
