-- Clauses that watch two of their literals.
use Rattle.std.specs.Prelude.{◌≡◌, ◌≢◌, ◌⊎◌, ℕ, ◌*◌, ◌<◌, ◌≤◌, Bool, true, false, nat_eq, if◌then◌else◌, IsTrue, List, [], ◌∷◌, length, take, slice_index_or, Contains}
use Rattle.watched_propagation.specs.declared.watch.Pair.{Pair}
use Rattle.watched_propagation.specs.declared.watch.Watch.{Watch}
use Rattle.propagation_trail.specs.Codes.{negated}
use Rattle.propagation_trail.specs.Trails.{TrailState}

abbrev pub no_pair : Pair
no_pair = record { first = 0; second = 0; next = 0 }

abbrev pub no_watch : Watch
no_watch = record { clause = 0; blocker = 0; is_short = false }

-- the clause of a number, its pair of watched literals, and the watches of a literal
abbrev pub clause_in : List (List ℕ) → ℕ → List ℕ
clause_in clauses k = slice_index_or clauses k []

abbrev pub pair_in : List Pair → ℕ → Pair
pair_in pairs k = slice_index_or pairs k no_pair

abbrev pub list_in : List (List Watch) → ℕ → List Watch
list_in lists w = slice_index_or lists w []

abbrev pub watch_in : List Watch → ℕ → Watch
watch_in list i = slice_index_or list i no_watch

-- the literal is one of two that are watched; where both are the same none is
pub record IsWatch (p : Pair) (w : ℕ) : Type 0 where
  pub two : p.first ≢ p.second
  pub one : (p.first ≡ w) ⊎ (p.second ≡ w)

-- a watch of the clause stands in the list, from a place on
pub record IsListed (list : List Watch) (start k : ℕ) : Type 0 where
  pub place : ℕ
  pub after : start ≤ place
  pub within : place < length list
  pub clause : (watch_in list place).clause ≡ k

-- each blocker of a list is a literal of its clause
abbrev pub AreBlockers : List (List ℕ) → List Watch → Type 0
AreBlockers clauses list = (i : ℕ) → i < length list → Contains (clause_in clauses (watch_in list i).clause) (watch_in list i).blocker

-- each clause watches literals of its own and stands in their lists, and each blocker is a literal of the clause
pub record IsListing (clauses : List (List ℕ)) (pairs : List Pair) (lists : List (List Watch)) : Type 0 where
  pub inside : (k w : ℕ) → IsWatch (pair_in pairs k) w → Contains (clause_in clauses k) w
  pub listed : (k w : ℕ) → IsWatch (pair_in pairs k) w → IsListed (list_in lists w) 0 k
  pub blockers : (w : ℕ) → AreBlockers clauses (list_in lists w)

-- a literal of the clause stands in the list
pub record Meets (clause literals : List ℕ) : Type 0 where
  pub literal : ℕ
  pub inside : Contains clause literal
  pub among : Contains literals literal

-- where a watched literal is false by the first of these literals, its clause is true by the others
pub record IsSettled (clauses : List (List ℕ)) (pairs : List Pair) (first others : List ℕ) : Type 0 where
  pub meets : (k w : ℕ) → IsWatch (pair_in pairs k) w → Contains first (negated w) → Meets (clause_in clauses k) others

-- the literals that were true when a decision was made
abbrev pub below_level : TrailState → ℕ → List ℕ
below_level t j = take (slice_index_or t.starts j 0) t.literals

-- the invariant of watched literals: nothing is left to propagate below a decision, nor in what was propagated
pub record IsWatching (clauses : List (List ℕ)) (pairs : List Pair) (lists : List (List Watch)) (t : TrailState) : Type 0 where
  pub listing : IsListing clauses pairs lists
  pub levels : (j : ℕ) → j < length t.starts → IsSettled clauses pairs (below_level t j) (below_level t j)
  pub front : IsSettled clauses pairs (take t.head t.literals) t.literals
  pub size : length lists ≡ 2 * length t.values

-- what watches two literals goes on to
abbrev pub KeepsWatched : List Pair → List Pair → Type 0
KeepsWatched pairs others = (k : ℕ) → (pair_in others k).first ≡ (pair_in others k).second → (pair_in pairs k).first ≡ (pair_in pairs k).second

-- the literals of the first clause stand in the second, in the same order
abbrev pub is_part : List ℕ → List ℕ → Bool
is_part [] whole = true
is_part (p ∷ ps) [] = false
is_part (p ∷ ps) (w ∷ ws) = if nat_eq p w then is_part ps ws else is_part (p ∷ ps) ws

-- a later clause is a part of this one
pub record IsCovered (clauses : List (List ℕ)) (k : ℕ) : Type 0 where
  pub by : ℕ
  pub later : k < by
  pub within : by < length clauses
  pub part : IsTrue (is_part (clause_in clauses by) (clause_in clauses k))

-- the literal is true, and was so when each decision was made: so it stays true
pub record IsLasting (t : TrailState) (c : ℕ) : Type 0 where
  pub true_now : Contains t.literals c
  pub true_before : (j : ℕ) → j < length t.starts → Contains (below_level t j) c

-- a literal of the clause stays true
pub record IsDone (t : TrailState) (clause : List ℕ) : Type 0 where
  pub literal : ℕ
  pub inside : Contains clause literal
  pub lasting : IsLasting t literal

-- a clause that watches nothing, and that no later one is a part of, stands among the loose ones, where no literal of it stays true
abbrev pub IsLoose : List (List ℕ) → List Pair → TrailState → List ℕ → Type 0
IsLoose clauses pairs t loose = (k : ℕ) → k < length clauses → (pair_in pairs k).first ≡ (pair_in pairs k).second → (IsCovered clauses k → ⊥) → Contains loose k ⊎ IsDone t (clause_in clauses k)

-- what stays true goes on to
abbrev pub KeepsLasting : TrailState → TrailState → Type 0
KeepsLasting t s = (c : ℕ) → IsLasting t c → IsLasting s c

-- the trail may go on so: the invariant stays, whatever the clauses are
abbrev pub KeepsWatching : TrailState → TrailState → Type 0
KeepsWatching t s = (clauses : List (List ℕ)) (pairs : List Pair) (lists : List (List Watch)) → IsWatching clauses pairs lists t → IsWatching clauses pairs lists s
