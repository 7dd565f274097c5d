-- Visits of the clauses that watch a literal which became false.
use Rattle.std.specs.Prelude.{◌≢◌, ◌⊎◌, ℕ, ◌-◌, ◌<◌, List, length, Contains, Option, Some, None}
use Rattle.watched_propagation.specs.declared.watch.Pair.{Pair}
use Rattle.watched_propagation.specs.declared.watch.Watch.{Watch}
use Rattle.watched_propagation.specs.declared.visit.Settled.{Settled}
use Rattle.watched_propagation.specs.declared.visit.Settled.TheVariants.{Moved, Satisfied, Conflict}
use Rattle.watched_propagation.specs.declared.visit.Visited.{Visited}
use Rattle.watched_propagation.specs.declared.visit.Visited.TheVariants.{Done, Next, Falsified}
use Rattle.propagation_trail.specs.Codes.{negated}
use Rattle.propagation_trail.specs.Trails.{TrailState}
use Rattle.watched_propagation.specs.Watching.{clause_in, pair_in, list_in, IsWatch, IsListed, Meets, IsWatching}

-- the other literal of a pair that watches one
pub record IsOther (p : Pair) (w o : ℕ) : Type 0 where
  pub this : IsWatch p w
  pub other : IsWatch p o
  pub apart : o ≢ w

-- a literal that may be watched beside another
pub record IsReplacement (codes literals : List ℕ) (other limit x : ℕ) : Type 0 where
  pub inside : Contains codes x
  pub apart : x ≢ other
  pub within : x < limit
  pub free : Contains literals (negated x) → ⊥

-- what is known of a clause once it is settled
abbrev pub IsSettledAs : List (List ℕ) → List Pair → List ℕ → ℕ → ℕ → Settled → Type 0
IsSettledAs clauses pairs literals f k Moved = IsWatch (pair_in pairs k) f → ⊥
IsSettledAs clauses pairs literals f k (Satisfied b) = Contains (clause_in clauses k) b × Contains literals b
IsSettledAs clauses pairs literals f k Conflict = Unit {0}

-- each clause that watches the literal is true, or is listed from a place on
pub record IsCovered (clauses : List (List ℕ)) (pairs : List Pair) (literals : List ℕ) (list : List Watch) (f start : ℕ) : Type 0 where
  pub each : (k : ℕ) → IsWatch (pair_in pairs k) f → Meets (clause_in clauses k) literals ⊎ IsListed list start k

-- each clause that watches the literal is true
pub record IsVisited (clauses : List (List ℕ)) (pairs : List Pair) (literals : List ℕ) (f : ℕ) : Type 0 where
  pub each : (k : ℕ) → IsWatch (pair_in pairs k) f → Meets (clause_in clauses k) literals

-- the visit has come to a place of the list
pub record IsVisiting (clauses : List (List ℕ)) (pairs : List Pair) (lists : List (List Watch)) (t : TrailState) (f place : ℕ) : Type 0 where
  pub watching : IsWatching clauses pairs lists t
  pub within : f < length lists
  pub falsified : Contains t.literals (negated f)
  pub covered : IsCovered clauses pairs t.literals (list_in lists f) f place

-- what is known after a turn of the visit, which had `left` watches before it
abbrev pub IsVisitedAs : List (List ℕ) → List Pair → List (List Watch) → TrailState → ℕ → ℕ → Visited → Type 0
IsVisitedAs clauses pairs lists t f left Done = IsVisited clauses pairs t.literals f
IsVisitedAs clauses pairs lists t f left (Next place) = IsVisiting clauses pairs lists t f place × (length (list_in lists f) - place < left)
IsVisitedAs clauses pairs lists t f left (Falsified k) = Unit {0}

-- nothing is said of a false clause; else each clause that watches the literal is true
abbrev pub IsVisitedUnless : List (List ℕ) → List Pair → List ℕ → ℕ → Option ℕ → Type 0
IsVisitedUnless clauses pairs literals f (Some k) = Unit {0}
IsVisitedUnless clauses pairs literals f None = IsVisited clauses pairs literals f
