-- What contracts see of a formula.
use Rattle.std.specs.Prelude.{◌≡◌, ℕ, List, [], ◌∷◌, ◌++◌, take}
use Rattle.clause_core.specs.declared.literal.Lit.{Lit}

-- how many variables there are, numbered from 1, and the clauses, numbered from 1
pub record Formula : Type 0 where
  pub variables : ℕ
  pub clauses : List (List Lit)

-- the formula with one more clause, behind the others
abbrev pub with_clause : Formula → List Lit → Formula
with_clause f clause = record { variables = f.variables; clauses = f.clauses ++ clause ∷ [] }

-- its first clauses alone, so many of them
abbrev pub first_clauses : ℕ → Formula → Formula
first_clauses count f = record { variables = f.variables; clauses = take count f.clauses }

-- the formula `later` begins with the clauses of `f`, over the same variables
pub record BeginsWith (f later : Formula) : Type 0 where
  pub variables : later.variables ≡ f.variables
  pub more : List (List Lit)
  pub clauses : later.clauses ≡ f.clauses ++ more
