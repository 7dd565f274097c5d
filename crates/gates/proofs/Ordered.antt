-- Each gate stands after its operands, and each literal that was made is one of the circuit's.
use Rattle.std.proofs.Common.{◌≡◌, ℕ, zero, suc, take, drop, ◌+◌, ◌≤◌, ◌<◌, Bool, true, false, not, ◌&&◌, ◌||◌, refl, sym, subst, List, [], ◌∷◌, ◌++◌, length, arith, cond, length-append}
use Rattle.std.specs.Prelude.{nat_lt, min, max, if◌then◌else◌}
use Rattle.std.specs.List.{list_any, position_or_len}
use Rattle.std.proofs.lemmas.Bool.{false≢true, and_parts, and_from, ltb-true, lt-ltb}
use Rattle.clause_core.specs.declared.literal.Lit.{Lit}
use Rattle.clause_core.specs.declared.gate.Gate.{Gate}
use Rattle.clause_core.specs.declared.gate.Gate.TheVariants.{And, Xor, Mux}
use Rattle.clause_core.specs.Values.{negation}
use Rattle.gates.specs.declared.plan.Plan.{Plan}
use Rattle.gates.specs.declared.plan.Plan.TheVariants.{Ready, Ask}
use Rattle.gates.specs.Literals.{plain, false_lit, is_true, is_false, same_lit, opposite_lits}
use Rattle.gates.specs.Plans.{and_plan, or_plan, xor_plan, xor_of_variables, mux_plan, not_plan}
use Rattle.gates.specs.Netlists.{Netlist, same_gate, variable_of, make}
use Rattle.gates.specs.Rules.{and_of, or_of, xor_of, mux_of}
use Rattle.gates.specs.Order.{lit_below, gate_below, is_ordered, end_of, IsOrdered, IsLiteralOf, IsOrderedAfter}

-- the literal or the operands stand before x
pub PlanBelow : ℕ → Plan → Type 0
PlanBelow x (Ready l) = lit_below x l ≡ true
PlanBelow x (Ask g s) = gate_below x g ≡ true

PlanBelow-ready : (x : ℕ) (l : Lit) → lit_below x l ≡ true → PlanBelow x (Ready l)
unfolding PlanBelow
PlanBelow-ready x l h = h

PlanBelow-ask : (x : ℕ) (g : Gate) (s : Bool) → gate_below x g ≡ true → PlanBelow x (Ask g s)
unfolding PlanBelow
PlanBelow-ask x g s h = h

by_plan : (x : ℕ) (t : Bool) (p q : Plan) → PlanBelow x p → PlanBelow x q → PlanBelow x (cond t p q)
by_plan x true p q h k = h
by_plan x false p q h k = k

PlanBelow-not : (x : ℕ) (p : Plan) → PlanBelow x p → PlanBelow x (not_plan p)
unfolding PlanBelow
PlanBelow-not x (Ready l) h = h
PlanBelow-not x (Ask g s) h = h

below_from : (x y : ℕ) (s : Bool) → 0 < y → y < x → lit_below x (record { variable = y; negative = s }) ≡ true
below_from x y s h k = and_from (nat_lt 0 y) (nat_lt y x) (lt-ltb 0 y h) (lt-ltb y x k)

above_zero : (x : ℕ) (l : Lit) → lit_below x l ≡ true → 0 < l.variable
above_zero x l h = ltb-true 0 l.variable (and_parts (nat_lt 0 l.variable) (nat_lt l.variable x) h).0

below_end : (x : ℕ) (l : Lit) → lit_below x l ≡ true → l.variable < x
below_end x l h = ltb-true l.variable x (and_parts (nat_lt 0 l.variable) (nat_lt l.variable x) h).1

two_below : (x : ℕ) (a b : Lit) → lit_below x a ≡ true → lit_below x b ≡ true → (lit_below x a && lit_below x b) ≡ true
two_below x a b ha hb = and_from (lit_below x a) (lit_below x b) ha hb

PlanBelow-and : (x : ℕ) (a b : Lit) → 1 < x → lit_below x a ≡ true → lit_below x b ≡ true → PlanBelow x (and_plan a b)
PlanBelow-and x a b one ha hb =
    by_plan x _ (Ready false_lit) _ (PlanBelow-ready x false_lit (below_from x 1 true (omega arith) one)) (by_plan x _ (Ready b) _ (PlanBelow-ready x b hb) (by_plan x _ (Ready a) _ (PlanBelow-ready x a ha)
    (by_plan x _ _ _ (PlanBelow-ask x (And a b) false (two_below x a b ha hb)) (PlanBelow-ask x (And b a) false (two_below x b a hb ha)))))

PlanBelow-or : (x : ℕ) (a b : Lit) → 1 < x → lit_below x a ≡ true → lit_below x b ≡ true → PlanBelow x (or_plan a b)
PlanBelow-or x a b one ha hb = PlanBelow-not x (and_plan (negation a) (negation b)) (PlanBelow-and x (negation a) (negation b) one ha hb)

PlanBelow-variables : (x p q : ℕ) (s : Bool) → 1 < x → 0 < p → p < x → 0 < q → q < x → PlanBelow x (xor_of_variables p q s)
PlanBelow-variables x p q s one hp kp hq kq =
    by_plan x _ (Ready (record { variable = 1; negative = s })) _ (PlanBelow-ready x _ (below_from x 1 s (omega arith) one))
    (by_plan x _ (Ready (record { variable = q; negative = s })) _ (PlanBelow-ready x _ (below_from x q s hq kq))
    (PlanBelow-ask x (Xor (plain p) (plain q)) (not s) (two_below x (plain p) (plain q) (below_from x p false hp kp) (below_from x q false hq kq))))

PlanBelow-xor : (x : ℕ) (a b : Lit) → 1 < x → lit_below x a ≡ true → lit_below x b ≡ true → PlanBelow x (xor_plan a b)
PlanBelow-xor x a b one ha hb =
    let za : 0 < a.variable = above_zero x a ha in
    let zb : 0 < b.variable = above_zero x b hb in
    let ea : a.variable < x = below_end x a ha in
    let eb : b.variable < x = below_end x b hb in
    PlanBelow-variables x (min a.variable b.variable) (max a.variable b.variable) _ one (omega arith) (omega arith) (omega arith) (omega arith)

PlanBelow-mux : (x : ℕ) (c a b : Lit) → 1 < x → lit_below x c ≡ true → lit_below x a ≡ true → lit_below x b ≡ true → PlanBelow x (mux_plan c a b)
PlanBelow-mux x c a b one hc ha hb =
    by_plan x (is_true c) (Ready a) _ (PlanBelow-ready x a ha) (by_plan x (is_false c) (Ready b) _ (PlanBelow-ready x b hb) (by_plan x (same_lit a b) (Ready a) _ (PlanBelow-ready x a ha)
    (by_plan x (opposite_lits a b) (xor_plan c b) _ (PlanBelow-xor x c b one hc hb)
    (by_plan x (is_true a || same_lit a c) (or_plan c b) _ (PlanBelow-or x c b one hc hb)
    (by_plan x (is_false a || opposite_lits a c) (and_plan (negation c) b) _ (PlanBelow-and x (negation c) b one hc hb)
    (by_plan x (is_true b || opposite_lits b c) (or_plan (negation c) a) _ (PlanBelow-or x (negation c) a one hc ha)
    (by_plan x (is_false b || same_lit b c) (and_plan c a) (Ask (Mux c a b) false) (PlanBelow-and x c a one hc ha)
    (PlanBelow-ask x (Mux c a b) false (and_from (lit_below x c) (lit_below x a && lit_below x b) hc (two_below x a b ha hb))))))))))

is_ordered-push : (x : ℕ) (gs : List Gate) (g : Gate) → is_ordered x gs ≡ true → gate_below (x + length gs) g ≡ true → is_ordered x (gs ++ g ∷ []) ≡ true
is_ordered-push x [] g h k = and_from (gate_below x g) true (subst (λ z. gate_below z g ≡ true) (zero_more x) k) refl
  where
    zero_more : (x : ℕ) → x + 0 ≡ x
    zero_more x = omega arith
is_ordered-push x (f ∷ gs) g h k =
    let (here, later) = and_parts (gate_below x f) (is_ordered (x + 1) gs) h in
    and_from (gate_below x f) _ here (is_ordered-push (x + 1) gs g later (subst (λ z. gate_below z g ≡ true) (one_more x (length gs)) k))
  where
    one_more : (x n : ℕ) → x + suc n ≡ x + 1 + n
    one_more x n = omega arith

position_step : (t : Bool) (m n : ℕ) → (t ≡ false → m < n) → cond (not t) (1 + m) 0 < suc n
position_step true m n h = omega arith
position_step false m n h = let k : m < n = h refl in omega arith

position_found : (p : Gate → Bool) (gs : List Gate) → list_any p gs ≡ true → position_or_len p gs < length gs
position_found p [] h = absurd (false≢true h)
position_found p (g ∷ gs) h = position_step (p g) _ _ (λ e. position_found p gs (subst (λ z. (z || list_any p gs) ≡ true) e h))

position_le : (p : Gate → Bool) (gs : List Gate) → position_or_len p gs ≤ length gs
position_le p [] = omega arith
position_le p (g ∷ gs) = position_le_step (p g) _ _ (position_le p gs)
  where
    position_le_step : (t : Bool) (m n : ℕ) → m ≤ n → cond (not t) (1 + m) 0 ≤ suc n
    position_le_step true m n h = omega arith
    position_le_step false m n h = omega arith

ordered_gate : (n : Netlist) (g : Gate) (s t : Bool) → list_any (same_gate g) n.gates ≡ t → IsOrdered n → gate_below (end_of n) g ≡ true
    → IsOrderedAfter (end_of n) (record { lit = record { variable = variable_of n g; negative = s }; net = record { first = n.first; limit = n.limit; gates = if t then n.gates else n.gates ++ g ∷ [] } })
ordered_gate n g s true e h b = record {
  ordered = record { one = h.one; ordered = h.ordered };
  more = omega arith;
  literal = record { below = below_from _ (variable_of n g) s (omega (arith, h.one)) (omega (arith, position_found (same_gate g) n.gates e)) };
}
ordered_gate n g s false e h b = record {
  ordered = record { one = h.one; ordered = is_ordered-push n.first n.gates g h.ordered b };
  more = omega (arith, length-append n.gates (g ∷ []));
  literal = record { below = below_from _ (variable_of n g) s (omega (arith, h.one)) (omega (arith, position_le (same_gate g) n.gates, length-append n.gates (g ∷ []))) };
}

ordered_make : (p : Plan) (n : Netlist) → IsOrdered n → PlanBelow (end_of n) p → IsOrderedAfter (end_of n) (make p n)
unfolding PlanBelow
ordered_make (Ready l) n h b = record { ordered = h; more = omega arith; literal = record { below = b } }
ordered_make (Ask g s) n h b = ordered_gate n g s (list_any (same_gate g) n.gates) refl h b

one_below : (n : Netlist) → IsOrdered n → 1 < end_of n
one_below n h = omega (arith, h.one)

pub ordered_and : (a b : Lit) (n : Netlist) → IsOrdered n → IsLiteralOf n a → IsLiteralOf n b → IsOrderedAfter (end_of n) (and_of a b n)
unfolding and_of
ordered_and a b n h ha hb = ordered_make (and_plan a b) n h (PlanBelow-and (end_of n) a b (one_below n h) ha.below hb.below)

pub ordered_or : (a b : Lit) (n : Netlist) → IsOrdered n → IsLiteralOf n a → IsLiteralOf n b → IsOrderedAfter (end_of n) (or_of a b n)
unfolding or_of
ordered_or a b n h ha hb = ordered_make (or_plan a b) n h (PlanBelow-or (end_of n) a b (one_below n h) ha.below hb.below)

pub ordered_xor : (a b : Lit) (n : Netlist) → IsOrdered n → IsLiteralOf n a → IsLiteralOf n b → IsOrderedAfter (end_of n) (xor_of a b n)
unfolding xor_of
ordered_xor a b n h ha hb = ordered_make (xor_plan a b) n h (PlanBelow-xor (end_of n) a b (one_below n h) ha.below hb.below)

pub ordered_mux : (c a b : Lit) (n : Netlist) → IsOrdered n → IsLiteralOf n c → IsLiteralOf n a → IsLiteralOf n b → IsOrderedAfter (end_of n) (mux_of c a b n)
unfolding mux_of
ordered_mux c a b n h hc ha hb = ordered_make (mux_plan c a b) n h (PlanBelow-mux (end_of n) c a b (one_below n h) hc.below ha.below hb.below)

-- a part of the gates is in order too
pub is_ordered-drop : (x k : ℕ) (gs : List Gate) → is_ordered x gs ≡ true → is_ordered (x + k) (drop k gs) ≡ true
is_ordered-drop x zero gs h = subst (λ z. is_ordered z gs ≡ true) (sym (zero_more x)) h
  where
    zero_more : (x : ℕ) → x + 0 ≡ x
    zero_more x = omega arith
is_ordered-drop x (suc k) [] h = refl
is_ordered-drop x (suc k) (g ∷ gs) h =
    subst (λ z. is_ordered z (drop k gs) ≡ true) (sym (one_more x k)) (is_ordered-drop (x + 1) k gs (and_parts (gate_below x g) (is_ordered (x + 1) gs) h).1)
  where
    one_more : (x k : ℕ) → x + suc k ≡ x + 1 + k
    one_more x k = omega arith

pub is_ordered-take : (x k : ℕ) (gs : List Gate) → is_ordered x gs ≡ true → is_ordered x (take k gs) ≡ true
is_ordered-take x zero gs h = refl
is_ordered-take x (suc k) [] h = refl
is_ordered-take x (suc k) (g ∷ gs) h =
    let (here, later) = and_parts (gate_below x g) (is_ordered (x + 1) gs) h in
    and_from (gate_below x g) _ here (is_ordered-take (x + 1) k gs later)
