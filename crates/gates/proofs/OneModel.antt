-- Every setting of the free bits extends to exactly one model of an ordered circuit.
use Rattle.std.proofs.Common.{◌≡◌, ◌≢◌, ℕ, ◌+◌, Bool, true, ◌&&◌, refl, sym, ◌∙◌, ap, List, [], ◌∷◌, length, arith, inl, inr}
use Rattle.std.specs.Prelude.{nat_eq, nat_lt, if◌then◌else◌}
use Rattle.std.proofs.lemmas.Bool.{and_parts, ltb-true, eq-eqb, ne_eqb, cond-true, cond-false, cases_eq}
use Rattle.clause_core.specs.declared.literal.Lit.{Lit}
use Rattle.clause_core.specs.declared.gate.Gate.{Gate}
use Rattle.clause_core.specs.declared.gate.Gate.TheVariants.{And, Xor, Mux}
use Rattle.clause_core.specs.Satisfaction.{literal_true, signed}
use Rattle.gates.specs.Meaning.{gate_true, exactly_one}
use Rattle.gates.specs.Netlists.{Netlist}
use Rattle.gates.specs.Models.{GatesHold, put, extended, Agrees, ExtendsOnce}
use Rattle.gates.specs.Order.{lit_below, gate_below, is_ordered, IsOrdered}

put-other : (rho : ℕ → Bool) (x y : ℕ) (b : Bool) → y ≢ x → put rho x b y ≡ rho y
put-other rho x y b h = cond-false (nat_eq y x) b (rho y) (ne_eqb y x h)

put-same : (rho : ℕ → Bool) (x : ℕ) (b : Bool) → put rho x b x ≡ b
put-same rho x b = cond-true (nat_eq x x) b (rho x) (eq-eqb x x refl)

-- a gate looks only at variables before it
literal_true-agrees : (rho tau : ℕ → Bool) (x : ℕ) (l : Lit) → Agrees x rho tau → lit_below x l ≡ true → literal_true rho l ≡ literal_true tau l
literal_true-agrees rho tau x l h b = ap (signed l.negative) (h l.variable (ltb-true l.variable x (and_parts (nat_lt 0 l.variable) (nat_lt l.variable x) b).1))

two_agree : (f : Bool → Bool → Bool) (rho tau : ℕ → Bool) (x : ℕ) (a b : Lit) → Agrees x rho tau → (lit_below x a && lit_below x b) ≡ true → f (literal_true rho a) (literal_true rho b) ≡ f (literal_true tau a) (literal_true tau b)
two_agree f rho tau x a b h o =
    let (first, second) = and_parts (lit_below x a) (lit_below x b) o in
    ap (λ z. f z (literal_true rho b)) (literal_true-agrees rho tau x a h first) ∙ ap (λ z. f (literal_true tau a) z) (literal_true-agrees rho tau x b h second)

gate_true-agrees : (rho tau : ℕ → Bool) (x : ℕ) (g : Gate) → Agrees x rho tau → gate_below x g ≡ true → gate_true rho g ≡ gate_true tau g
gate_true-agrees rho tau x (And a b) h o = two_agree (λ p q. p && q) rho tau x a b h o
gate_true-agrees rho tau x (Xor a b) h o = two_agree exactly_one rho tau x a b h o
gate_true-agrees rho tau x (Mux c a b) h o =
    let (first, later) = and_parts (lit_below x c) (lit_below x a && lit_below x b) o in
    ap (λ z. if z then literal_true rho a else literal_true rho b) (literal_true-agrees rho tau x c h first)
    ∙ two_agree (λ p q. if literal_true tau c then p else q) rho tau x a b h later

-- later gates leave earlier variables
extended-keeps : (rho : ℕ → Bool) (x : ℕ) (gs : List Gate) → Agrees x (extended rho x gs) rho
extended-keeps rho x [] y h = refl
extended-keeps rho x (g ∷ gs) y h =
    extended-keeps (put rho x (gate_true rho g)) (x + 1) gs y (omega arith) ∙ put-other rho x y (gate_true rho g) (omega arith)

extended-holds : (rho : ℕ → Bool) (x : ℕ) (gs : List Gate) → is_ordered x gs ≡ true → GatesHold (extended rho x gs) x gs
extended-holds rho x [] o = tt
extended-holds rho x (g ∷ gs) o =
    let next = put rho x (gate_true rho g) in
    let final = extended next (x + 1) gs in
    let (here, later) = and_parts (gate_below x g) (is_ordered (x + 1) gs) o in (
      extended-keeps next (x + 1) gs x (omega arith) ∙ put-same rho x (gate_true rho g)
          ∙ sym (gate_true-agrees final rho x g (extended-keeps rho x (g ∷ gs)) here),
      extended-holds next (x + 1) gs later,
    )

-- two models that agree on the free bits agree on the gates
agree_more : (x : ℕ) (rho tau : ℕ → Bool) → Agrees x rho tau → rho x ≡ tau x → Agrees (x + 1) rho tau
agree_more x rho tau h e y lt = elim (cases_eq y x) [ inl q ↦ ap rho q ∙ e ∙ sym (ap tau q) | inr q ↦ h y (omega arith) ]

models_agree : (rho tau : ℕ → Bool) (x : ℕ) (gs : List Gate) → is_ordered x gs ≡ true → GatesHold rho x gs → GatesHold tau x gs → Agrees x rho tau → Agrees (x + length gs) rho tau
models_agree rho tau x [] o hr ht h y lt = h y (omega arith)
models_agree rho tau x (g ∷ gs) o hr ht h y lt =
    let (here, later) = and_parts (gate_below x g) (is_ordered (x + 1) gs) o in
    models_agree rho tau (x + 1) gs later hr.1 ht.1
    (agree_more x rho tau h (hr.0 ∙ gate_true-agrees rho tau x g h here ∙ sym ht.0)) y (omega arith)

pub ExtendsOnce_ordered : (n : Netlist) (setting : ℕ → Bool) → IsOrdered n → setting 1 ≡ true → ExtendsOnce n setting
ExtendsOnce_ordered n setting o one =
    let final = extended setting n.first n.gates in
    let keeps = extended-keeps setting n.first n.gates in
    let holds = extended-holds setting n.first n.gates o.ordered in
    record {
      model = record { one = keeps 1 o.one ∙ one; holds = holds };
      keeps = keeps;
      only = λ rho m a. models_agree rho final n.first n.gates o.ordered m.holds holds (λ y lt. a y lt ∙ sym (keeps y lt));
    }
