-- Clauses as sets of literals, and clauses whose variables rise.
use Rattle.std.specs.Prelude.{ℕ, zero, suc, ◌+◌, ◌*◌, Bool, true, List, [], ◌∷◌, nat_lt, nat_le, ◌&&◌, if◌then◌else◌}
use Rattle.std.specs.List.{list_all}
use Rattle.clause_core.specs.declared.literal.Lit.{Lit}

-- the literal's variable lies in 1 to `variables`
abbrev pub is_inside : ℕ → Lit → Bool
is_inside variables l = nat_lt 0 l.variable && nat_le l.variable variables

-- so does each literal of the clause
abbrev pub is_within : ℕ → List Lit → Bool
is_within variables c = list_all (is_inside variables) c

-- the variables rise from above `low`, and are at most `variables`
abbrev pub fits_in : ℕ → ℕ → List Lit → Bool
fits_in variables low [] = true
fits_in variables low (l ∷ ls) = nat_lt low l.variable && (nat_le l.variable variables && fits_in variables l.variable ls)

-- the variables rise and lie in 1 to `variables`
abbrev pub rises : ℕ → List Lit → Bool
rises variables c = fits_in variables 0 c

-- the order of literals: by variable, a variable before its negative
abbrev pub rank : Lit → ℕ
rank l = 2 * l.variable + (if l.negative then 1 else 0)

-- the ranks rise, from `low` on
abbrev pub ascends : ℕ → List Lit → Bool
ascends low [] = true
ascends low (l ∷ ls) = nat_le low (rank l) && ascends (rank l + 1) ls

-- the literals stand in order, and none stands twice
abbrev pub is_set : List Lit → Bool
is_set c = ascends 0 c

-- a literal put in its place, unless it is there already
abbrev pub inserted : Lit → List Lit → List Lit
inserted l [] = l ∷ []
inserted l (m ∷ ms) = if nat_lt (rank m) (rank l) then m ∷ inserted l ms else (if nat_lt (rank l) (rank m) then l ∷ m ∷ ms else m ∷ ms)

-- the set with these literals put in too
abbrev pub with_all : List Lit → List Lit → List Lit
with_all c [] = c
with_all c (l ∷ ls) = with_all (inserted l c) ls

-- the set of these literals
abbrev pub set_of : List Lit → List Lit
set_of literals = with_all [] literals

-- how many literals stand before the literal's place
abbrev pub place_in : Lit → List Lit → ℕ
place_in l [] = 0
place_in l (m ∷ ms) = if nat_lt (rank m) (rank l) then suc (place_in l ms) else zero
