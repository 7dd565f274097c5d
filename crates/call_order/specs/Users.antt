-- What uses each number, and how many uses of each are not yet taken.
use Rattle.std.specs.Prelude.{◌≡◌, ℕ, ◌+◌, ◌<◌, ◌==◌, nat_lt, ◌&&◌, ◌||◌, List, length, slice_index_or, if◌then◌else◌}
use Rattle.std.specs.List.{count_by}
use Rattle.call_order.specs.Uses.{Graph, uses_at, is_among}

-- how often a number is among some numbers
abbrev pub times : ℕ → List ℕ → ℕ
times k numbers = count_by (λ n. k == n) numbers

-- each number has those that use it, as often as they do
abbrev pub HasUsers : Graph → Graph → Type 0
HasUsers g users = (k user : ℕ) → k < length g → times user (uses_at users k) ≡ times k (uses_at g user)

-- one number more is a user, of each of some numbers, as often as they stand there
abbrev pub GainsUser : ℕ → List ℕ → Graph → Graph → Type 0
GainsUser user numbers old new =
    (k other : ℕ) → k < length old
    → times other (uses_at new k) ≡ times other (uses_at old k) + (if other == user then times k numbers else 0)

-- how many uses of a number are missing; none from the length on
abbrev pub missing_at : List ℕ → ℕ → ℕ
missing_at missing k = slice_index_or missing k 0

-- each of some users misses one use less, each time that it stands there
abbrev pub MissesLess : List ℕ → List ℕ → List ℕ → Type 0
MissesLess users old new = (k : ℕ) → missing_at new k + times k users ≡ missing_at old k

-- what is ready: what was, and the users that miss nothing any more
abbrev pub GetReady : List ℕ → List ℕ → List ℕ → List ℕ → Type 0
GetReady users missing old new = (k : ℕ) → is_among k new ≡ (is_among k old || (is_among k users && missing_at missing k == 0))

-- what is ready before any number is taken
abbrev pub IsReadyAtFirst : Graph → List ℕ → Type 0
IsReadyAtFirst g ready = (k : ℕ) → is_among k ready ≡ (nat_lt k (length g) && length (uses_at g k) == 0)
