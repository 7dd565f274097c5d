-- How many nodes there may be.
use Rattle.std.specs.Prelude.{ℕ, Bool, true, nat_le, Option, None, Some}

-- there are no more than there may be
abbrev pub is_within : Option ℕ → ℕ → Bool
is_within None n = true
is_within (Some limit) n = nat_le n limit
