-- Where nothing uses anything, nothing uses anything in a circle.
use Rattle.std.proofs.Common.{◌≡◌, ℕ, zero, suc, true, List, [], ◌∷◌, length, ◌==◌, ◌&&◌, refl, ap, sym, arith}
use Rattle.std.proofs.lemmas.Bool.{and_parts}
use Rattle.call_order.specs.Uses.{Graph, uses_at, is_among, leads_to, HasCircles}
use Rattle.pou_scope.specs.NoUses.{uses_nothing}

is_none : (us : List ℕ) → (length us == 0) ≡ true → us ≡ []
is_none [] h = refl
is_none (u ∷ us) h = absurd (grind arith)

none_used : (g : Graph) → uses_nothing g ≡ true → (k : ℕ) → uses_at g k ≡ []
none_used [] h k = refl
none_used (us ∷ g) h zero = is_none us (and_parts (length us == 0) (uses_nothing g) h).0
none_used (us ∷ g) h (suc k) = none_used g (and_parts (length us == 0) (uses_nothing g) h).1 k

pub no_circles : (g : Graph) → uses_nothing g ≡ true → HasCircles g []
no_circles g h user used = ap (λ (us : List ℕ). is_among used us && leads_to g used user) (sym (none_used g h user))
