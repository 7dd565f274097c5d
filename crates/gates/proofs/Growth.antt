-- Circuits only grow: gates are added behind those that are there.
use Rattle.std.proofs.Common.{◌≡◌, ℕ, ◌+◌, Bool, true, false, refl, sym, ◌∙◌, ap, subst, List, [], ◌∷◌, ◌++◌, length, arith, length-append, append_assoc}
use Rattle.std.specs.Prelude.{if◌then◌else◌}
use Rattle.std.specs.List.{list_any}
use Rattle.std.proofs.lemmas.List.{append-nil}
use Rattle.clause_core.specs.declared.literal.Lit.{Lit}
use Rattle.clause_core.specs.declared.gate.Gate.{Gate}
use Rattle.gates.specs.declared.plan.Plan.{Plan}
use Rattle.gates.specs.declared.plan.Plan.TheVariants.{Ready, Ask}
use Rattle.gates.specs.Netlists.{Netlist, same_gate, make, IsExtensionOf, IsOverfull}
use Rattle.gates.specs.Models.{GatesHold, IsModel}
use Rattle.gates.specs.Rules.{and_of, or_of, xor_of, mux_of}

pub extends_self : (n : Netlist) → IsExtensionOf n n
extends_self n = record { first = refl; limit = refl; more = []; gates = sym (append-nil n.gates) }

pub extends_then : (n m k : Netlist) → IsExtensionOf n m → IsExtensionOf m k → IsExtensionOf n k
extends_then n m k a b = record {
  first = b.first ∙ a.first;
  limit = b.limit ∙ a.limit;
  more = a.more ++ b.more;
  gates = b.gates ∙ ap (λ z. z ++ b.more) a.gates ∙ append_assoc n.gates a.more b.more;
}

-- what is overfull stays so
pub overfull_then : (n m : Netlist) → IsExtensionOf n m → IsOverfull n → IsOverfull m
overfull_then n m a h = record { over = omega (arith, a.limit, ap length a.gates, length-append n.gates a.more, h.over) }

GatesHold-left : (rho : ℕ → Bool) (v : ℕ) (gs more : List Gate) → GatesHold rho v (gs ++ more) → GatesHold rho v gs
GatesHold-left rho v [] more h = tt
GatesHold-left rho v (g ∷ gs) more h = (h.0, GatesHold-left rho (v + 1) gs more h.1)

pub IsModel-front : (rho : ℕ → Bool) (n m : Netlist) → IsExtensionOf n m → IsModel rho m → IsModel rho n
IsModel-front rho n m a h = record {
  one = h.one;
  holds = GatesHold-left rho n.first n.gates a.more (subst (λ gs. GatesHold rho n.first gs) a.gates (subst (λ v. GatesHold rho v m.gates) a.first h.holds));
}

extends_gate : (n : Netlist) (g : Gate) (t : Bool) → list_any (same_gate g) n.gates ≡ t → IsExtensionOf n (record { first = n.first; limit = n.limit; gates = if t then n.gates else n.gates ++ g ∷ [] })
extends_gate n g true e = extends_self n
extends_gate n g false e = record { first = refl; limit = refl; more = g ∷ []; gates = refl }

pub extends_make : (p : Plan) (n : Netlist) → IsExtensionOf n (make p n).net
extends_make (Ready l) n = extends_self n
extends_make (Ask g s) n = extends_gate n g (list_any (same_gate g) n.gates) refl

pub extends_and : (a b : Lit) (n : Netlist) → IsExtensionOf n (and_of a b n).net
unfolding and_of
extends_and a b n = extends_make _ n

pub extends_or : (a b : Lit) (n : Netlist) → IsExtensionOf n (or_of a b n).net
unfolding or_of
extends_or a b n = extends_make _ n

pub extends_xor : (a b : Lit) (n : Netlist) → IsExtensionOf n (xor_of a b n).net
unfolding xor_of
extends_xor a b n = extends_make _ n

pub extends_mux : (c a b : Lit) (n : Netlist) → IsExtensionOf n (mux_of c a b n).net
unfolding mux_of
extends_mux c a b n = extends_make _ n
