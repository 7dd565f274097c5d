-- One turn of a loop: what the step makes is a front of what is made of all that is left.
use Rattle.std.proofs.Common.{◌≡◌, ℕ, ◌+◌, ◌<◌, Bool, false, sym, ◌∙◌, subst, List, [], ◌∷◌, length, drop, get_or}
use Rattle.std.proofs.lemmas.List.{at_drop_more}
use Rattle.clause_core.specs.declared.literal.Lit.{Lit}
use Rattle.gates.specs.Netlists.{Netlist, IsExtensionOf}
use Rattle.gates.specs.Rules.{or_of, mux_of}
use Rattle.word_circuits.specs.declared.bits.BitOperator.{BitOperator}
use Rattle.word_circuits.specs.Words.{bit_of, bitwise_of}
use Rattle.word_circuits.specs.Sums.{full_adder_of, add_of}
use Rattle.word_circuits.specs.Comparisons.{same_step_of, eq_from}
use Rattle.word_circuits.specs.Choices.{choose_of}
use Rattle.word_circuits.specs.Products.{mul_from}
use Rattle.word_circuits.specs.Divisions.{divide_step_of, divide_from}
use Rattle.word_circuits.specs.Conversions.{any_from}
use Rattle.word_circuits.proofs.Growth.{extends_add, extends_bitwise, extends_eq_from, extends_choose, extends_mul_from, extends_divide_from, extends_any_from}

-- the literal that stands for none
abbrev pub no_lit : Lit
no_lit = record { variable = 0; negative = false }

pub add_turn : (a b : List Lit) (i : ℕ) (d c : Lit) (n all : Netlist) → i < length a → i < length b → (add_of (drop i a) (drop i b) c n).net ≡ all → IsExtensionOf (full_adder_of (get_or a i d) (get_or b i d) c n).net all
add_turn a b i d c n all h k e =
    let f = full_adder_of (get_or a i d) (get_or b i d) c n in
    subst (λ (m : Netlist). IsExtensionOf f.net m)
    (sym (at_drop_more (λ x. (add_of x (drop i b) c n).net) a i d h ∙ at_drop_more (λ y. (add_of (get_or a i d ∷ drop (i + 1) a) y c n).net) b i d k) ∙ e)
    (extends_add (drop (i + 1) a) (drop (i + 1) b) f.carry f.net)

pub bitwise_turn : (o : BitOperator) (a b : List Lit) (i : ℕ) (d : Lit) (n all : Netlist) → i < length a → i < length b → (bitwise_of o (drop i a) (drop i b) n).net ≡ all → IsExtensionOf (bit_of o (get_or a i d) (get_or b i d) n).net all
bitwise_turn o a b i d n all h k e =
    let x = bit_of o (get_or a i d) (get_or b i d) n in
    subst (λ (m : Netlist). IsExtensionOf x.net m)
    (sym (at_drop_more (λ y. (bitwise_of o y (drop i b) n).net) a i d h ∙ at_drop_more (λ y. (bitwise_of o (get_or a i d ∷ drop (i + 1) a) y n).net) b i d k) ∙ e)
    (extends_bitwise o (drop (i + 1) a) (drop (i + 1) b) x.net)

pub choose_turn : (c : Lit) (a b : List Lit) (i : ℕ) (d : Lit) (n all : Netlist) → i < length a → i < length b → (choose_of c (drop i a) (drop i b) n).net ≡ all → IsExtensionOf (mux_of c (get_or a i d) (get_or b i d) n).net all
choose_turn c a b i d n all h k e =
    let x = mux_of c (get_or a i d) (get_or b i d) n in
    subst (λ (m : Netlist). IsExtensionOf x.net m)
    (sym (at_drop_more (λ y. (choose_of c y (drop i b) n).net) a i d h ∙ at_drop_more (λ y. (choose_of c (get_or a i d ∷ drop (i + 1) a) y n).net) b i d k) ∙ e)
    (extends_choose c (drop (i + 1) a) (drop (i + 1) b) x.net)

pub eq_turn : (r : Lit) (a b : List Lit) (i : ℕ) (d : Lit) (n all : Netlist) → i < length a → i < length b → (eq_from r (drop i a) (drop i b) n).net ≡ all → IsExtensionOf (same_step_of r (get_or a i d) (get_or b i d) n).net all
eq_turn r a b i d n all h k e =
    let x = same_step_of r (get_or a i d) (get_or b i d) n in
    subst (λ (m : Netlist). IsExtensionOf x.net m)
    (sym (at_drop_more (λ y. (eq_from r y (drop i b) n).net) a i d h ∙ at_drop_more (λ y. (eq_from r (get_or a i d ∷ drop (i + 1) a) y n).net) b i d k) ∙ e)
    (extends_eq_from x.lit (drop (i + 1) a) (drop (i + 1) b) x.net)

pub mul_turn : (a b : List Lit) (i : ℕ) (d : Lit) (sum given : List Lit) (n all : Netlist) → i < length b → given ≡ sum → (mul_from a i (drop i b) sum n).net ≡ all → IsExtensionOf (mul_from a i (get_or b i d ∷ []) given n).net all
mul_turn a b i d sum given n all h same e =
    let r = mul_from a i (get_or b i d ∷ []) sum n in
    subst (λ (s : List Lit). IsExtensionOf (mul_from a i (get_or b i d ∷ []) s n).net all) (sym same)
    (subst (λ (m : Netlist). IsExtensionOf r.net m) (sym (at_drop_more (λ bs. (mul_from a i bs sum n).net) b i d h) ∙ e) (extends_mul_from a (i + 1) (drop (i + 1) b) r.word r.net))

pub divide_turn : (xs b r given q : List Lit) (i : ℕ) (d : Lit) (n all : Netlist) → i < length xs → given ≡ r → (divide_from (drop i xs) b r q n).net ≡ all → IsExtensionOf (divide_step_of (get_or xs i d) given b n).net all
divide_turn xs b r given q i d n all h same e =
    let s = divide_step_of (get_or xs i d) r b n in
    subst (λ (w : List Lit). IsExtensionOf (divide_step_of (get_or xs i d) w b n).net all) (sym same)
    (subst (λ (m : Netlist). IsExtensionOf s.net m) (sym (at_drop_more (λ ys. (divide_from ys b r q n).net) xs i d h) ∙ e) (extends_divide_from (drop (i + 1) xs) b s.rest (s.goes ∷ q) s.net))

pub any_turn : (r : Lit) (a : List Lit) (i : ℕ) (d : Lit) (n all : Netlist) → i < length a → (any_from r (drop i a) n).net ≡ all → IsExtensionOf (or_of r (get_or a i d) n).net all
any_turn r a i d n all h e =
    let x = or_of r (get_or a i d) n in
    subst (λ (m : Netlist). IsExtensionOf x.net m) (sym (at_drop_more (λ ys. (any_from r ys n).net) a i d h) ∙ e) (extends_any_from x.lit (drop (i + 1) a) x.net)
