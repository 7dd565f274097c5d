-- The graph that vectors hold.
use Rattle.std.proofs.Common.{◌≡◌, ℕ, zero, suc, ◌<◌, List, [], ◌∷◌, length, get_or, set, map, refl, sym, ap, arith, Vec, Global}
use Rattle.std.proofs.lemmas.List.{length-map}
use Rattle.call_order.specs.Uses.{graph_of, uses_at}

pub length-graph : (vs : List (Vec ℕ Global)) → length (graph_of vs) ≡ length vs
length-graph vs = length-map vs (λ v. v.items)

-- what stands at a place
pub uses_at-graph : (vs : List (Vec ℕ Global)) (k : ℕ) (v : Vec ℕ Global) → k < length vs → v ≡ get_or vs k v → uses_at (graph_of vs) k ≡ v.items
uses_at-graph [] k v below e = absurd (omega arith)
uses_at-graph (u ∷ us) zero v below e = ap (λ (w : Vec ℕ Global). w.items) (sym e)
uses_at-graph (u ∷ us) (suc k) v below e = uses_at-graph us k v (omega arith) e

-- after a write
pub uses_at-set_same : (vs : List (Vec ℕ Global)) (n : ℕ) (v : Vec ℕ Global) → n < length vs → uses_at (graph_of (set vs n v)) n ≡ v.items
uses_at-set_same [] n v below = absurd (omega arith)
uses_at-set_same (u ∷ us) zero v below = refl
uses_at-set_same (u ∷ us) (suc n) v below = uses_at-set_same us n v (omega arith)

pub uses_at-set_other : (vs : List (Vec ℕ Global)) (n k : ℕ) (v : Vec ℕ Global) → (k ≡ n → ⊥) → uses_at (graph_of (set vs n v)) k ≡ uses_at (graph_of vs) k
uses_at-set_other [] n k v apart = refl
uses_at-set_other (u ∷ us) zero zero v apart = absurd (apart refl)
uses_at-set_other (u ∷ us) zero (suc k) v apart = refl
uses_at-set_other (u ∷ us) (suc n) zero v apart = refl
uses_at-set_other (u ∷ us) (suc n) (suc k) v apart = uses_at-set_other us n k v (λ e. apart (ap suc e))

-- how many each uses
pub long_at : (vs : List (Vec ℕ Global)) (k : ℕ) → get_or (map (λ v. length v.items) vs) k 0 ≡ length (uses_at (graph_of vs) k)
long_at [] k = refl
long_at (u ∷ us) zero = refl
long_at (u ∷ us) (suc k) = long_at us k
