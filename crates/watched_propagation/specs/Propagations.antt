-- What contracts see of a propagator.
use Rattle.std.specs.Prelude.{ℕ, ◌^◌, ◌<◌, ◌≤◌, List, map, length, All, take, Contains}
use Rattle.clause_core.specs.declared.literal.Lit.{Lit}
use Rattle.clause_core.specs.declared.truth.Truth.{Truth}
use Rattle.watched_propagation.specs.declared.watch.Pair.{Pair}
use Rattle.watched_propagation.specs.declared.watch.Watch.{Watch}
use Rattle.propagation_trail.specs.Codes.{literal_of, negated}
use Rattle.propagation_trail.specs.Trails.{TrailState, IsRising}
use Rattle.watched_propagation.specs.Watching.{IsWatching, IsLoose, below_level}

-- the clauses that are held, and the values of the variables
pub record Propagation : Type 0 where
  pub held : List (List Lit)
  pub values : List Truth

-- the clauses of literals whose ranks are kept
abbrev pub literals_of : List (List ℕ) → List (List Lit)
literals_of clauses = map (map literal_of) clauses

-- each variable is small enough for its rank to have 32 bits
abbrev pub AreSmall : List Lit → Type 0
AreSmall literals = All (λ l. l.variable < 2 ^ 31) literals

-- how a propagator is kept
pub record IsPropagator (clauses : List (List ℕ)) (pairs : List Pair) (lists : List (List Watch)) (t : TrailState) (loose : List ℕ) : Type 0 where
  pub watching : IsWatching clauses pairs lists t
  pub unwatched : IsLoose clauses pairs t loose
  pub paired : length clauses ≤ length pairs
  pub few : length t.values ≤ 2 ^ 31

-- a literal that a new clause may watch beside or as `one`
pub record IsWatchable (t : TrailState) (one w : ℕ) : Type 0 where
  pub levels : (j : ℕ) → j < length t.starts → Contains (below_level t j) (negated w) → ⊥
  pub front : Contains (take t.head t.literals) (negated w) → Contains t.literals one

-- a clause may come to watch these two at the present level, the first open and the other false by it
pub record IsLearnable (t : TrailState) (one other : ℕ) : Type 0 where
  pub first : Contains t.literals (negated one) → ⊥
  pub second : (j : ℕ) → j < length t.starts → Contains (below_level t j) (negated other) → ⊥
  pub rising : IsRising t.starts (length t.literals)
