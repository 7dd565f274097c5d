-- Parts of a graph: in each part every number leads to every other.
use Rattle.std.specs.Prelude.{◌≡◌, ◌⊎◌, ℕ, ◌<◌, ◌≤◌, ◌==◌, Bool, true, ◌&&◌, List, length, slice_index}
use Rattle.call_order.specs.Uses.{Graph, uses_at, is_among, Reaches}

-- a number is one of those that a search starts from, or one of them reaches it
abbrev pub IsReached : Graph → List ℕ → ℕ → Type 0
IsReached g starts k = (is_among k starts ≡ true) ⊎ ((start : ℕ) × (is_among start starts ≡ true) × Reaches g start k)

-- each use is below the length, and leads to no part before that of its user
abbrev pub NeverFalls : Graph → List ℕ → Type 0
NeverFalls g parts = (k used : ℕ) → is_among used (uses_at g k) ≡ true → (used < length g) × (slice_index parts k ≤ slice_index parts used)

-- for each number those of its uses that pass a test
pub record AreFiltered (g : Graph) (test : ℕ → ℕ → Bool) (kept : Graph) : Type 0 where
  pub size : length kept ≡ length g
  pub uses : (k used : ℕ) → is_among used (uses_at kept k) ≡ (is_among used (uses_at g k) && test k used)

-- a use inside a part
abbrev pub is_inside : List ℕ → ℕ → ℕ → Bool
is_inside parts k used = slice_index parts used == slice_index parts k

-- each of some numbers is the head of its part
abbrev pub AreHeads : List ℕ → List ℕ → List ℕ → Type 0
AreHeads parts heads numbers = (k : ℕ) → is_among k numbers ≡ true → slice_index heads (slice_index parts k) ≡ k

-- what stands at each number below the length
abbrev pub ReachesAll : Graph → List ℕ → Type 0
ReachesAll g starts = (k : ℕ) → k < length g → IsReached g starts k
