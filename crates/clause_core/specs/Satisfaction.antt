-- Assignments of every variable, and what satisfies clauses and formulas.
use Rattle.std.specs.Prelude.{◌≡◌, ℕ, Bool, true, false, not, List, slice_index_or}
use Rattle.std.specs.List.{list_any, list_all}
use Rattle.clause_core.specs.declared.literal.Lit.{Lit}

-- the assignment that a list of values stands for: a variable past its end is false
abbrev pub assigned : List Bool → ℕ → Bool
assigned values x = slice_index_or values x false

-- the value of a literal of this sign, from its variable's
abbrev pub signed : Bool → Bool → Bool
signed true b = not b
signed false b = b

abbrev pub literal_true : (ℕ → Bool) → Lit → Bool
literal_true v l = signed l.negative (v l.variable)

-- some literal is true
abbrev pub clause_true : (ℕ → Bool) → List Lit → Bool
clause_true v c = list_any (literal_true v) c

-- every clause is true
abbrev pub formula_true : (ℕ → Bool) → List (List Lit) → Bool
formula_true v f = list_all (clause_true v) f

abbrev pub Satisfies : (ℕ → Bool) → List (List Lit) → Type 0
Satisfies v f = formula_true v f ≡ true

-- every assignment leaves a clause false
abbrev pub HasNoSolution : List (List Lit) → Type 0
HasNoSolution f = (v : ℕ → Bool) → formula_true v f ≡ false
