-- The words of a run, one gate after the other.
use Rattle.std.proofs.Common.{◌≡◌, ℕ, ◌+◌, ◌<◌, ◌≤◌, ◌&&◌, Bool, true, sym, ◌∙◌, ap, subst, List, [], ◌∷◌, length, drop, get_or, arith, inl, inr, get_or-set_same, get_or-set_other}
use Rattle.std.specs.Prelude.{nat_eq, nat_lt, slice_set}
use Rattle.std.proofs.lemmas.List.{drop_more}
use Rattle.std.proofs.lemmas.Bool.{and_parts, and_from, lt-ltb, ltb-true, eq-eqb, ne_eqb, cond-true, cond-false, cases_eq}
use Rattle.clause_core.specs.declared.literal.Lit.{Lit}
use Rattle.clause_core.specs.declared.gate.Gate.{Gate}
use Rattle.clause_core.specs.declared.gate.Gate.TheVariants.{And, Xor, Mux}
use Rattle.gates.specs.Models.{put, extended, IsModel}
use Rattle.gates.specs.Meaning.{gate_true}
use Rattle.gates.specs.Netlists.{Netlist}
use Rattle.gates.specs.Literals.{plain}
use Rattle.gates.specs.Order.{lit_below, gate_below, is_ordered, IsOrdered}
use Rattle.gates.proofs.OneModel.{ExtendsOnce_ordered}
use Rattle.lane_sim.specs.Lanes.{lane, assignment_of, IsRunOf}
use mathlib.Core.Path.{fun_ext}

-- a write of one word changes one variable
pub assignment_of-set : (j : ℕ) (words : List (List ℕ)) (x : ℕ) (w : List ℕ) (b : Bool) → x < length words → lane w j ≡ b → assignment_of j (slice_set words x w) ≡ put (assignment_of j words) x b
assignment_of-set j words x w b h e = fun_ext at
  where
    at : (y : ℕ) → assignment_of j (slice_set words x w) y ≡ put (assignment_of j words) x b y
    at y = elim (cases_eq y x) [
      | inl q ↦ ap (λ z. lane (get_or (slice_set words x w) z []) j) q ∙ ap (λ z. lane z j) (get_or-set_same words x w [] h) ∙ e ∙ sym (cond-true (nat_eq y x) b _ (eq-eqb y x q))
      | inr q ↦ ap (λ z. lane z j) (get_or-set_other words x y w [] q) ∙ sym (cond-false (nat_eq y x) b _ (ne_eqb y x q))
    ]

-- what the gates from one on make of the words, by that gate and those after it
pub extended-next : (j : ℕ) (words : List (List ℕ)) (x : ℕ) (w : List ℕ) (g : Gate) (gs : List Gate) → x < length words → lane w j ≡ gate_true (assignment_of j words) g
    → extended (assignment_of j (slice_set words x w)) (x + 1) gs ≡ extended (assignment_of j words) x (g ∷ gs)
extended-next j words x w g gs h e = ap (λ v. extended v (x + 1) gs) (assignment_of-set j words x w (gate_true (assignment_of j words) g) h e)

-- the words that the gates leave are a run
pub IsRunOf-extended : (n : Netlist) (free before after : List (List ℕ)) (j : ℕ) → IsOrdered n → length free + 2 ≡ n.first → assignment_of j before 1 ≡ true
    → ((i : ℕ) → i < length free → assignment_of j before (i + 2) ≡ assignment_of j free i)
    → assignment_of j after ≡ extended (assignment_of j before) n.first n.gates → IsRunOf n free j (assignment_of j after)
IsRunOf-extended n free before after j h len one bits e =
    let once = ExtendsOnce_ordered n (assignment_of j before) h one in
    record {
      model = subst (λ v. IsModel v n) (sym e) once.model;
      bits = λ i lt. ap (λ v. v (i + 2)) e ∙ once.keeps (i + 2) (omega arith) ∙ bits i lt;
    }

-- the gates from place i on, of which the first is the variable x: the first, and those after it
pub extended-drop : (j : ℕ) (words : List (List ℕ)) (x i : ℕ) (w : List ℕ) (gs : List Gate) (d : Gate) → x < length words → i < length gs → lane w j ≡ gate_true (assignment_of j words) (get_or gs i d)
    → extended (assignment_of j (slice_set words x w)) (x + 1) (drop (i + 1) gs) ≡ extended (assignment_of j words) x (drop i gs)
extended-drop j words x i w gs d h lt e =
    extended-next j words x w (get_or gs i d) (drop (i + 1) gs) h e ∙ sym (ap (extended (assignment_of j words) x) (drop_more gs i d lt))

pub is_ordered-next : (x i : ℕ) (gs : List Gate) → i < length gs → is_ordered x (drop i gs) ≡ true → is_ordered (x + 1) (drop (i + 1) gs) ≡ true
is_ordered-next x i gs lt h =
    let any : Gate = And (plain 0) (plain 0) in
    let whole : is_ordered x (get_or gs i any ∷ drop (i + 1) gs) ≡ true = subst (λ (rest : List Gate). is_ordered x rest ≡ true) (drop_more gs i any lt) h in
    (and_parts (gate_below x (get_or gs i any)) (is_ordered (x + 1) (drop (i + 1) gs)) whole).1

-- what stands before a variable stands before a later one
lit_later : (x y : ℕ) (l : Lit) → x ≤ y → lit_below x l ≡ true → lit_below y l ≡ true
lit_later x y l le e =
    let (one, below) = and_parts (nat_lt 0 l.variable) (nat_lt l.variable x) e in
    and_from (nat_lt 0 l.variable) (nat_lt l.variable y) one (lt-ltb l.variable y (omega (arith, ltb-true l.variable x below, le)))

pub gate_later : (x y : ℕ) (g : Gate) → x ≤ y → gate_below x g ≡ true → gate_below y g ≡ true
gate_later x y (And a b) le e =
    let (one, two) = and_parts (lit_below x a) (lit_below x b) e in
    and_from (lit_below y a) (lit_below y b) (lit_later x y a le one) (lit_later x y b le two)
gate_later x y (Xor a b) le e =
    let (one, two) = and_parts (lit_below x a) (lit_below x b) e in
    and_from (lit_below y a) (lit_below y b) (lit_later x y a le one) (lit_later x y b le two)
gate_later x y (Mux c a b) le e =
    let (zero, more) = and_parts (lit_below x c) (lit_below x a && lit_below x b) e in
    let (one, two) = and_parts (lit_below x a) (lit_below x b) more in
    and_from (lit_below y c) (lit_below y a && lit_below y b) (lit_later x y c le zero) (and_from (lit_below y a) (lit_below y b) (lit_later x y a le one) (lit_later x y b le two))

pub next_below : (x i : ℕ) (gs : List Gate) (d : Gate) → i < length gs → is_ordered x (drop i gs) ≡ true → gate_below x (get_or gs i d) ≡ true
next_below x i gs d lt h =
    let whole : is_ordered x (get_or gs i d ∷ drop (i + 1) gs) ≡ true = subst (λ (rest : List Gate). is_ordered x rest ≡ true) (drop_more gs i d lt) h in
    (and_parts (gate_below x (get_or gs i d)) (is_ordered (x + 1) (drop (i + 1) gs)) whole).0
