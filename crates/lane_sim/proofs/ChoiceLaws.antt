-- Gates as choices.
use Rattle.std.proofs.Common.{◌≡◌, ℕ, zero, suc, ◌+◌, ◌<◌, Bool, true, false, not, ◌&&◌, refl, ◌∙◌, ap, List, [], ◌∷◌, length, get_or, arith}
use Rattle.std.specs.Prelude.{nat_lt, if◌then◌else◌}
use Rattle.std.proofs.lemmas.Bool.{and_parts, ltb-true}
use Rattle.clause_core.specs.declared.literal.Lit.{Lit}
use Rattle.clause_core.specs.declared.gate.Gate.{Gate}
use Rattle.clause_core.specs.declared.gate.Gate.TheVariants.{And, Xor, Mux}
use Rattle.clause_core.specs.Satisfaction.{literal_true}
use Rattle.gates.specs.Literals.{false_lit}
use Rattle.gates.specs.Meaning.{gate_true, exactly_one}
use Rattle.gates.specs.Models.{GatesHold}
use Rattle.gates.specs.Order.{lit_below, gate_below, is_ordered}
use Rattle.gates.proofs.Booleans.{literal_true-not}
use Rattle.gates.proofs.Ordered.{is_ordered-drop}
use Rattle.lane_sim.specs.Choices.{choice_of, choice_true, IsChoiceBelow}
use Rattle.lane_sim.proofs.RunLaws.{next_below}

both_by_choice : (a b f : Bool) → f ≡ false → (if a then b else f) ≡ (a && b)
both_by_choice true b f e = refl
both_by_choice false b f e = e

one_by_choice : (a b : Bool) → (if a then not b else b) ≡ exactly_one a b
one_by_choice true b = refl
one_by_choice false b = refl

-- a gate is its choice, where TRUE is true
pub choice_true-gate : (v : ℕ → Bool) (g : Gate) → v 1 ≡ true → choice_true v (choice_of g) ≡ gate_true v g
choice_true-gate v (And a b) one = both_by_choice (literal_true v a) (literal_true v b) (literal_true v false_lit) (ap not one)
choice_true-gate v (Xor a b) one =
    ap (λ z. if literal_true v a then z else literal_true v b) (literal_true-not v b) ∙ one_by_choice (literal_true v a) (literal_true v b)
choice_true-gate v (Mux c a b) one = refl

between : (x : ℕ) (l : Lit) → lit_below x l ≡ true → (0 < l.variable) × (l.variable < x)
between x l h =
    let (one, below) = and_parts (nat_lt 0 l.variable) (nat_lt l.variable x) h in
    (ltb-true 0 l.variable one, ltb-true l.variable x below)

-- the operands of a gate stand before it
pub choice_below : (x : ℕ) (g : Gate) → 1 < x → gate_below x g ≡ true → IsChoiceBelow x (choice_of g)
choice_below x (And a b) one h =
    let (first, second) = and_parts (lit_below x a) (lit_below x b) h in
    record { condition = between x a first; yes = between x b second; no = (omega arith, one) }
choice_below x (Xor a b) one h =
    let (first, second) = and_parts (lit_below x a) (lit_below x b) h in
    record { condition = between x a first; yes = between x b second; no = between x b second }
choice_below x (Mux c a b) one h =
    let (first, more) = and_parts (lit_below x c) (lit_below x a && lit_below x b) h in
    let (second, third) = and_parts (lit_below x a) (lit_below x b) more in
    record { condition = between x c first; yes = between x a second; no = between x b third }

-- the operands of the gate at a place stand before it
pub choice_below-at : (x k : ℕ) (gs : List Gate) (d : Gate) → 1 < x → is_ordered x gs ≡ true → k < length gs → IsChoiceBelow (x + k) (choice_of (get_or gs k d))
choice_below-at x k gs d one h lt = choice_below (x + k) (get_or gs k d) (omega arith) (next_below (x + k) k gs d lt (is_ordered-drop x k gs h))

-- the variable of the gate at a place has the gate's value
pub holds-at : (v : ℕ → Bool) (x k : ℕ) (gs : List Gate) (d : Gate) → k < length gs → GatesHold v x gs → v (x + k) ≡ gate_true v (get_or gs k d)
holds-at v x k [] d lt h = absurd (omega arith)
holds-at v x zero (g ∷ gs) d lt h = ap v (first x) ∙ h.0
  where
    first : (x : ℕ) → x + 0 ≡ x
    first x = omega arith
holds-at v x (suc k) (g ∷ gs) d lt h = ap v (next x k) ∙ holds-at v (x + 1) k gs d (omega arith) h.1
  where
    next : (x k : ℕ) → x + suc k ≡ x + 1 + k
    next x k = omega arith
