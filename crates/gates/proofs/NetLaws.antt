-- What a literal that was made means.
use Rattle.std.proofs.Common.{◌≡◌, ℕ, ◌+◌, Bool, true, false, not, ◌&&◌, ◌||◌, refl, sym, ◌∙◌, ap, List, [], ◌∷◌, ◌++◌, arith, cond}
use Rattle.std.specs.Prelude.{if◌then◌else◌}
use Rattle.std.specs.List.{list_any, position_or_len}
use Rattle.std.proofs.lemmas.Bool.{false≢true, and_parts, or_parts}
use Rattle.clause_core.specs.declared.literal.Lit.{Lit}
use Rattle.clause_core.specs.declared.gate.Gate.{Gate}
use Rattle.clause_core.specs.declared.gate.Gate.TheVariants.{And, Xor, Mux}
use Rattle.clause_core.specs.Satisfaction.{literal_true, signed}
use Rattle.gates.specs.declared.plan.Plan.{Plan}
use Rattle.gates.specs.declared.plan.Plan.TheVariants.{Ready, Ask}
use Rattle.gates.specs.Literals.{same_lit}
use Rattle.gates.specs.Meaning.{gate_true, plan_true, exactly_one}
use Rattle.gates.specs.Netlists.{Netlist, Made, same_gate, make}
use Rattle.gates.specs.Models.{GatesHold, IsModel}
use Rattle.gates.specs.Rules.{and_of, or_of, xor_of, mux_of}
use Rattle.gates.proofs.Booleans.{literal_true-same}
use Rattle.gates.proofs.PlanLaws.{plan_true-and, plan_true-or, plan_true-xor, plan_true-mux}

-- a rule of two literals that are the same
two_same : (f : Bool → Bool → Bool) (rho : ℕ → Bool) (a b c d : Lit) → (same_lit a c && same_lit b d) ≡ true → f (literal_true rho a) (literal_true rho b) ≡ f (literal_true rho c) (literal_true rho d)
two_same f rho a b c d e =
    let (first, second) = and_parts (same_lit a c) (same_lit b d) e in
    ap (λ z. f z (literal_true rho b)) (literal_true-same rho a c first) ∙ ap (λ z. f (literal_true rho c) z) (literal_true-same rho b d second)

gate_true-same : (rho : ℕ → Bool) (g h : Gate) → same_gate g h ≡ true → gate_true rho g ≡ gate_true rho h
gate_true-same rho (And a b) (And c d) e = two_same (λ x y. x && y) rho a b c d e
gate_true-same rho (And a b) (Xor c d) e = absurd (false≢true e)
gate_true-same rho (And a b) (Mux d m f) e = absurd (false≢true e)
gate_true-same rho (Xor a b) (Xor c d) e = two_same exactly_one rho a b c d e
gate_true-same rho (Xor a b) (And c d) e = absurd (false≢true e)
gate_true-same rho (Xor a b) (Mux d m f) e = absurd (false≢true e)
gate_true-same rho (Mux c a b) (Mux d m f) e =
    let (first, later) = and_parts (same_lit c d) (same_lit a m && same_lit b f) e in
    ap (λ z. if z then literal_true rho a else literal_true rho b) (literal_true-same rho c d first)
    ∙ two_same (λ x y. if literal_true rho d then x else y) rho a b m f later
gate_true-same rho (Mux c a b) (And d e') e = absurd (false≢true e)
gate_true-same rho (Mux c a b) (Xor d e') e = absurd (false≢true e)

GatesHold-front : (rho : ℕ → Bool) (v : ℕ) (gs : List Gate) (g : Gate) → GatesHold rho v (gs ++ g ∷ []) → GatesHold rho v gs
GatesHold-front rho v [] g h = tt
GatesHold-front rho v (k ∷ gs) g h = (h.0, GatesHold-front rho (v + 1) gs g h.1)

or_other : (a b : Bool) → (a || b) ≡ true → a ≡ false → b ≡ true
or_other true b h f = absurd (false≢true (sym f))
or_other false b h f = h

v_zero : (v : ℕ) → v + 0 ≡ v
v_zero v = omega arith

v_more : (v n : ℕ) → v + (1 + n) ≡ v + 1 + n
v_more v n = omega arith

found_at : (rho : ℕ → Bool) (v n : ℕ) (t b : Bool) → (t ≡ true → rho v ≡ b) → (t ≡ false → rho (v + 1 + n) ≡ b) → rho (v + cond (not t) (1 + n) 0) ≡ b
found_at rho v n true b on off = ap rho (v_zero v) ∙ on refl
found_at rho v n false b on off = ap rho (v_more v n) ∙ off refl

GatesHold-last : (rho : ℕ → Bool) (v : ℕ) (gs : List Gate) (g : Gate) → GatesHold rho v (gs ++ g ∷ []) → list_any (same_gate g) gs ≡ false → rho (v + position_or_len (same_gate g) gs) ≡ gate_true rho g
GatesHold-last rho v [] g h f = ap rho (v_zero v) ∙ h.0
GatesHold-last rho v (k ∷ gs) g h f =
    found_at rho v (position_or_len (same_gate g) gs) (same_gate g k) (gate_true rho g)
    (λ e. absurd (false≢true (sym ((or_parts (same_gate g k) (list_any (same_gate g) gs) f).0) ∙ e)))
    (λ _. GatesHold-last rho (v + 1) gs g h.1 ((or_parts (same_gate g k) (list_any (same_gate g) gs) f).1))

GatesHold-found : (rho : ℕ → Bool) (v : ℕ) (gs : List Gate) (g : Gate) → GatesHold rho v gs → list_any (same_gate g) gs ≡ true → rho (v + position_or_len (same_gate g) gs) ≡ gate_true rho g
GatesHold-found rho v [] g h f = absurd (false≢true f)
GatesHold-found rho v (k ∷ gs) g h f =
    found_at rho v (position_or_len (same_gate g) gs) (same_gate g k) (gate_true rho g)
    (λ e. h.0 ∙ sym (gate_true-same rho g k e))
    (λ e. GatesHold-found rho (v + 1) gs g h.1 (or_other (same_gate g k) (list_any (same_gate g) gs) f e))

-- what a made literal means: the circuit before has the model too, and the literal has the plan's value
pub record Means (rho : ℕ → Bool) (before : Netlist) (made : Made) (worth : Bool) : Type 0 where
  pub model : IsModel rho before
  pub value : literal_true rho made.lit ≡ worth

Means-gate : (rho : ℕ → Bool) (n : Netlist) (g : Gate) (s t : Bool) → list_any (same_gate g) n.gates ≡ t → rho 1 ≡ true → GatesHold rho n.first (if t then n.gates else n.gates ++ g ∷ []) → Means rho n (make (Ask g s) n) (signed s (gate_true rho g))
Means-gate rho n g s true e one h = record {
  model = record { one = one; holds = h };
  value = ap (signed s) (GatesHold-found rho n.first n.gates g h e);
}
Means-gate rho n g s false e one h = record {
  model = record { one = one; holds = GatesHold-front rho n.first n.gates g h };
  value = ap (signed s) (GatesHold-last rho n.first n.gates g h e);
}

pub Means-make : (rho : ℕ → Bool) (p : Plan) (n : Netlist) → IsModel rho (make p n).net → Means rho n (make p n) (plan_true rho p)
Means-make rho (Ready l) n m = record { model = m; value = refl }
Means-make rho (Ask g s) n m = Means-gate rho n g s (list_any (same_gate g) n.gates) refl m.one m.holds

Means-at : (rho : ℕ → Bool) (n : Netlist) (m : Made) (v w : Bool) → v ≡ w → Means rho n m v → Means rho n m w
Means-at rho n m v w e h = record { model = h.model; value = h.value ∙ e }

pub Means-and : (rho : ℕ → Bool) (a b : Lit) (n : Netlist) → IsModel rho (and_of a b n).net → Means rho n (and_of a b n) (literal_true rho a && literal_true rho b)
unfolding and_of
Means-and rho a b n m = Means-at rho n (and_of a b n) _ _ (plan_true-and rho a b m.one) (Means-make rho _ n m)

pub Means-or : (rho : ℕ → Bool) (a b : Lit) (n : Netlist) → IsModel rho (or_of a b n).net → Means rho n (or_of a b n) (literal_true rho a || literal_true rho b)
unfolding or_of
Means-or rho a b n m = Means-at rho n (or_of a b n) _ _ (plan_true-or rho a b m.one) (Means-make rho _ n m)

pub Means-xor : (rho : ℕ → Bool) (a b : Lit) (n : Netlist) → IsModel rho (xor_of a b n).net → Means rho n (xor_of a b n) (exactly_one (literal_true rho a) (literal_true rho b))
unfolding xor_of
Means-xor rho a b n m = Means-at rho n (xor_of a b n) _ _ (plan_true-xor rho a b m.one) (Means-make rho _ n m)

pub Means-mux : (rho : ℕ → Bool) (c a b : Lit) (n : Netlist) → IsModel rho (mux_of c a b n).net → Means rho n (mux_of c a b n) (if literal_true rho c then literal_true rho a else literal_true rho b)
unfolding mux_of
Means-mux rho c a b n m = Means-at rho n (mux_of c a b n) _ _ (plan_true-mux rho c a b m.one) (Means-make rho _ n m)
