-- Things that use one another, as numbers, and an order in which each stands behind those that it uses.
use Rattle.std.specs.Prelude.{◌≡◌, ℕ, zero, suc, ◌+◌, ◌==◌, Bool, true, not, ◌&&◌, ◌||◌, List, [], ◌∷◌, ◌++◌, length, map, slice_index_or, Option, Some, None, if◌then◌else◌, Vec}
use Rattle.std.specs.List.{list_any, list_all}
use Rattle.std.specs.declared.alloc.Global.{Global}

-- for each number the numbers that it uses
abbrev pub Graph : Type 0
Graph = List (List ℕ)

-- the graph that vectors hold
abbrev pub graph_of : List (Vec ℕ Global) → Graph
graph_of uses = map (λ v. v.items) uses

-- the numbers that a number uses; none from the length on
abbrev pub uses_at : Graph → ℕ → List ℕ
uses_at g k = slice_index_or g k []

-- whether a number is among some numbers
abbrev pub is_among : ℕ → List ℕ → Bool
is_among k numbers = list_any (λ n. k == n) numbers

-- one number uses another, or one that reaches it
pub data Reaches (g : Graph) : ℕ → ℕ → Type 0 where
  directly : (a b : ℕ) → is_among b (uses_at g a) ≡ true → Reaches g a b
  through : (a b c : ℕ) → is_among b (uses_at g a) ≡ true → Reaches g b c → Reaches g a c

-- a number leads to another by at most so many uses more than one
unfoldable pub leads_within : Graph → ℕ → ℕ → ℕ → Bool
leads_within g zero a b = is_among b (uses_at g a)
leads_within g (suc more) a b = is_among b (uses_at g a) || list_any (λ c. leads_within g more c b) (uses_at g a)

-- the same as `Reaches`, as a test: where there is a way, there is one that meets each number once at most
unfoldable pub leads_to : Graph → ℕ → ℕ → Bool
leads_to g a b = leads_within g (length g) a b

-- a number uses another that leads back to it: the two stand in a circle
abbrev pub is_in_circle : Graph → ℕ → ℕ → Bool
is_in_circle g user used = is_among used (uses_at g user) && leads_to g used user

-- for each number those of its uses that lead back to it
abbrev pub HasCircles : Graph → Graph → Type 0
HasCircles g circles = (user used : ℕ) → is_among used (uses_at circles user) ≡ is_in_circle g user used

-- a number may be taken that is not taken yet, and uses only numbers that are taken
abbrev pub is_ready : Graph → List ℕ → ℕ → Bool
is_ready g taken k = not (is_among k taken) && list_all (λ used. is_among used taken) (uses_at g k)

-- the first of some numbers in a row that passes a test
unfoldable pub first_from : (ℕ → Bool) → ℕ → ℕ → Option ℕ
first_from test k zero = None
first_from test k (suc count) = if test k then Some k else first_from test (k + 1) count

-- the first number below the length that may be taken
abbrev pub first_ready : Graph → List ℕ → Option ℕ
first_ready g taken = first_from (is_ready g taken) 0 (length g)

-- what is taken, and behind it so many further numbers, while there are any, each the first that may be taken
unfoldable pub ordered : Graph → ℕ → List ℕ → List ℕ
ordered g zero taken = taken
ordered g (suc count) taken = elim (first_ready g taken) [ None ↦ taken | Some k ↦ ordered g count (taken ++ k ∷ []) ]

-- the order: again and again the first number that may be taken
unfoldable pub order_of : Graph → List ℕ
order_of g = ordered g (length g) []
