-- Words read as whole numbers.
use Rattle.std.specs.Prelude.{ℕ, ◌+◌, ◌*◌, Bool, true, false, List, [], ◌∷◌, ℤ, pos, ◌+ℤ◌, ◌-ℤ◌}
use Rattle.clause_core.specs.declared.literal.Lit.{Lit}
use Rattle.clause_core.specs.Satisfaction.{literal_true}

abbrev pub bit : Bool → ℕ
bit true = 1
bit false = 0

-- the number that a word spells in binary, the bit of least worth first
abbrev pub number : (ℕ → Bool) → List Lit → ℕ
number v [] = 0
number v (l ∷ ls) = bit (literal_true v l) + 2 * number v ls

-- the number that a word spells in two's complement: its top bit counts down
abbrev pub signed_number : (ℕ → Bool) → List Lit → ℤ
signed_number v [] = pos 0
signed_number v (l ∷ []) = pos 0 -ℤ pos (bit (literal_true v l))
signed_number v (l ∷ m ∷ ls) = pos (bit (literal_true v l)) +ℤ signed_number v (m ∷ ls) +ℤ signed_number v (m ∷ ls)

-- the value of a word of a signed or an unsigned type
abbrev pub value : Bool → (ℕ → Bool) → List Lit → ℤ
value true v w = signed_number v w
value false v w = pos (number v w)
