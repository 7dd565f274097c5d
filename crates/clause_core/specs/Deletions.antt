-- Derived clauses that are held no more. Numbers of clauses stay: at the place of one that is deleted stands one that is always true.
use Rattle.std.specs.Prelude.{◌≡◌, ◌≢◌, ℕ, suc, ◌==◌, ◌<◌, ◌-◌, Bool, true, false, not, ◌&&◌, ◌||◌, IsTrue, List, [], ◌∷◌, ◌++◌, All, Contains, slice_get, slice_set, Some}
use Rattle.std.specs.List.{list_any, list_all}
use Rattle.clause_core.specs.declared.literal.Lit.{Lit}
use Rattle.clause_core.specs.Clauses.{rank}
use Rattle.clause_core.specs.Formula.{Formula}

-- variable 1 or its negation: true under every assignment; no hint may name it, and it forces nothing
abbrev pub always : List Lit
always = record { variable = 1; negative = false } ∷ record { variable = 1; negative = true } ∷ []

abbrev pub is_literal : Lit → Lit → Bool
is_literal l m = rank l == rank m

abbrev pub is_always : List Lit → Bool
is_always [] = false
is_always (l ∷ []) = false
is_always (l ∷ m ∷ []) = rank l == 2 && rank m == 3
is_always (l ∷ m ∷ (n ∷ ls)) = false

-- each literal of a clause stands in another one
abbrev pub is_part : List Lit → List Lit → Bool
is_part part clause = list_all (λ l. list_any (is_literal l) clause) part

-- A clause that is held, of the numbers from `at` on and not of the number `but`, is a part of the clause.
abbrev pub covers_from : ℕ → ℕ → List (List Lit) → List Lit → Bool
covers_from but at [] clause = false
covers_from but at (c ∷ cs) clause = (not (at == but) && (not (is_always c) && is_part c clause)) || covers_from but (suc at) cs clause

-- another clause that is held is a part of the clause of this number
abbrev pub is_covered : List (List Lit) → ℕ → List Lit → Bool
is_covered held number clause = covers_from number 1 held clause

-- the formula with that clause at a place, from 0, held no more
abbrev pub without_clause : ℕ → Formula → Formula
without_clause place f = record { variables = f.variables; clauses = slice_set f.clauses place always }

-- The number is that of a derived clause which is held, and another clause that is held is a part of it; the first `given` clauses are
-- the formula's. Over no variable each clause is empty, and none is deleted.
pub record IsDeletion (variables given : ℕ) (held : List (List Lit)) (number : ℕ) : Type 0 where
  pub some : 0 < variables
  pub derived : given < number
  pub clause : List Lit
  pub stands : slice_get held (number - 1) ≡ Some clause
  pub stays : is_always clause ≡ false
  pub covered : IsTrue (is_covered held number clause)

-- what is held when the clause of a number is held no more
abbrev pub without_number : ℕ → List (List Lit) → List (List Lit)
without_number number held = slice_set held (number - 1) always

-- What is left of all clauses that were ever held, where each one that was deleted had another held clause as a part.
pub data Thinned : List (List Lit) → List (List Lit) → Type 0 where
  whole : (held : List (List Lit)) → Thinned held held
  derived : (all held : List (List Lit)) (clause : List Lit) → Thinned all held → Thinned (all ++ clause ∷ []) (held ++ clause ∷ [])
  deleted : (all held : List (List Lit)) (i j : ℕ) (clause part : List Lit) → Thinned all held → i ≢ j → slice_get held i ≡ Some clause
      → slice_get held j ≡ Some part → All (λ l. Contains clause l) part → Thinned all (slice_set held i always)
