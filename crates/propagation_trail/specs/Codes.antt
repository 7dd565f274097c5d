-- Literals as numbers, their ranks.
use Rattle.std.specs.Prelude.{ℕ, ◌+◌, ◌-◌, ◌*◌, ◌/◌, ◌%◌, nat_eq, List, slice_set}
use Rattle.clause_core.specs.declared.literal.Lit.{Lit}
use Rattle.clause_core.specs.declared.truth.Truth.{Truth}
use Rattle.clause_core.specs.Values.{value, signed_truth}

-- the literal of a rank
abbrev pub literal_of : ℕ → Lit
literal_of r = record { variable = r / 2; negative = nat_eq (r % 2) 1 }

-- the rank of the literal with the other sign
abbrev pub negated : ℕ → ℕ
negated r = 2 * (r / 2) + (1 - r % 2)

-- the value of the literal of a rank
abbrev pub truth : List Truth → ℕ → Truth
truth vs r = value vs (literal_of r)

-- the values where the literal of this rank has this value
abbrev pub put : List Truth → ℕ → Truth → List Truth
put vs r t = slice_set vs (r / 2) (signed_truth (nat_eq (r % 2) 1) t)
