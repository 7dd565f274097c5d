-- Laws of the order.
use Rattle.std.specs.Prelude.{◌≡◌, ◌<◌, ◌↔◌, ℕ, true, false, List, ◌∷◌, ◌++◌, length, IsTrue}
use Rattle.call_order.specs.Uses.{Graph, uses_at, is_among, Reaches, leads_to, order_of}

-- in the order, each number stands behind those that it uses
abbrev pub StandsBehindItsUses : Type 0
StandsBehindItsUses =
    (g : Graph) (before behind : List ℕ) (k used : ℕ) → order_of g ≡ before ++ k ∷ behind
    → is_among used (uses_at g k) ≡ true → is_among used before ≡ true

-- no number stands twice in the order
abbrev pub StandsOnce : Type 0
StandsOnce = (g : Graph) (before behind : List ℕ) (k : ℕ) → order_of g ≡ before ++ k ∷ behind → is_among k before ≡ false

-- each number of the order is below the length
abbrev pub IsBelowLength : Type 0
IsBelowLength = (g : Graph) (k : ℕ) → is_among k (order_of g) ≡ true → k < length g

-- where the order has as many numbers as there are, it has each of them
abbrev pub HasEach : Type 0
HasEach = (g : Graph) → length (order_of g) ≡ length g → (k : ℕ) → k < length g → is_among k (order_of g) ≡ true

-- and no number reaches itself
abbrev pub NoneReachesItself : Type 0
NoneReachesItself = (g : Graph) → length (order_of g) ≡ length g → (k : ℕ) → ¬ Reaches g k k

-- where it has fewer, some number reaches itself, if all that are used are below the length
abbrev pub SomeReachesItself : Type 0
SomeReachesItself =
    (g : Graph) → ((k used : ℕ) → is_among used (uses_at g k) ≡ true → used < length g) → length (order_of g) < length g
    → (k : ℕ) × (k < length g) × Reaches g k k

-- one number leads to another exactly where it reaches it
abbrev pub LeadsWhereItReaches : Type 0
LeadsWhereItReaches = (g : Graph) (a b : ℕ) → IsTrue (leads_to g a b) ↔ Reaches g a b
