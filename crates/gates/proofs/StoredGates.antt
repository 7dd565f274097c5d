-- A gate that is kept is found again as that gate, and the list of gates is the one that it makes.
use Rattle.std.proofs.Common.{◌≡◌, ℕ, zero, suc, ◌<◌, ◌≤◌, length, arith, Bool, true, false, ◌&&◌, refl, sym, ◌∙◌, ap, List, [], ◌∷◌, ◌++◌, eqb-true, eq-eqb}
use Rattle.std.specs.Prelude.{if◌then◌else◌, nat_eq, slice_index_or}
use Rattle.std.specs.Bool.{beq}
use Rattle.std.specs.Cmp.{below_irrefl}
use Rattle.std.specs.List.{list_any, position_or_len}
use Rattle.std.proofs.Math.ListN.{get_or-map}
use Rattle.std.proofs.lemmas.Bool.{false≢true, and_parts}
use Rattle.std.proofs.lemmas.List.{length-append}
use Rattle.std.proofs.lemmas.List.Elements.{All-from_get_or}
use Rattle.std.proofs.lemmas.List.Folds.{list_any_none, list_any_at}
use Rattle.std.proofs.lemmas.List.Sums.{position_or_len_is}
use Rattle.clause_core.specs.declared.literal.Lit.{Lit}
use Rattle.clause_core.specs.declared.gate.Gate.{Gate}
use Rattle.clause_core.specs.declared.gate.Gate.TheVariants.{And, Xor, Mux}
use Rattle.gates.specs.Literals.{same_lit}
use Rattle.gates.specs.Netlists.{Netlist, same_gate, with_gate, IsOverfull}
use Rattle.gates.specs.declared.stored.StoredGate.{StoredGate}
use Rattle.gates.specs.Places.{no_gate, IsAbsent, AreDistinct}
use Rattle.gates.specs.Stored.{stored_of, gate_of, gates_of, IsStored, AreStored}

gate_of-stored : (g : Gate) → gate_of (stored_of g) ≡ g
gate_of-stored (And a b) = refl
gate_of-stored (Xor a b) = refl
gate_of-stored (Mux c a b) = refl

bit_same : (b c : Bool) → beq b c ≡ true → b ≡ c
bit_same true true e = refl
bit_same true false e = absurd (false≢true e)
bit_same false true e = absurd (false≢true e)
bit_same false false e = refl

bit_refl : (b : Bool) → beq b b ≡ true
bit_refl true = refl
bit_refl false = refl

both : (x y : Bool) → x ≡ true → y ≡ true → (x && y) ≡ true
both x y p q = ap (λ b. b && y) p ∙ q

lit_same : (a b : Lit) → same_lit a b ≡ true → a ≡ b
lit_same a b e =
    let (v, n) = and_parts (nat_eq a.variable b.variable) (beq a.negative b.negative) e in
    ap (λ x. let l : Lit = record { variable = x; negative = a.negative } in l) (eqb-true a.variable b.variable v)
    ∙ ap (λ x. let l : Lit = record { variable = b.variable; negative = x } in l) (bit_same a.negative b.negative n)

lit_refl : (a : Lit) → same_lit a a ≡ true
lit_refl a = both (nat_eq a.variable a.variable) (beq a.negative a.negative) (eq-eqb a.variable a.variable refl) (bit_refl a.negative)

two_same : (f : Lit → Lit → Gate) (a b c d : Lit) → (same_lit a c && same_lit b d) ≡ true → f a b ≡ f c d
two_same f a b c d e =
    let (first, second) = and_parts (same_lit a c) (same_lit b d) e in
    ap (λ l. f l b) (lit_same a c first) ∙ ap (λ l. f c l) (lit_same b d second)

gate_same : (g h : Gate) → same_gate g h ≡ true → g ≡ h
gate_same (And a b) (And c d) e = two_same (λ x y. And x y) a b c d e
gate_same (And a b) (Xor c d) e = absurd (false≢true e)
gate_same (And a b) (Mux d m f) e = absurd (false≢true e)
gate_same (Xor a b) (Xor c d) e = two_same (λ x y. Xor x y) a b c d e
gate_same (Xor a b) (And c d) e = absurd (false≢true e)
gate_same (Xor a b) (Mux d m f) e = absurd (false≢true e)
gate_same (Mux c a b) (Mux d m f) e =
    let (first, later) = and_parts (same_lit c d) (same_lit a m && same_lit b f) e in
    ap (λ l. Mux l a b) (lit_same c d first) ∙ two_same (λ x y. Mux d x y) a b m f later
gate_same (Mux c a b) (And d m) e = absurd (false≢true e)
gate_same (Mux c a b) (Xor d m) e = absurd (false≢true e)

gate_refl : (g : Gate) → same_gate g g ≡ true
gate_refl (And a b) = both (same_lit a a) (same_lit b b) (lit_refl a) (lit_refl b)
gate_refl (Xor a b) = both (same_lit a a) (same_lit b b) (lit_refl a) (lit_refl b)
gate_refl (Mux c a b) = both (same_lit c c) (same_lit a a && same_lit b b) (lit_refl c) (both (same_lit a a) (same_lit b b) (lit_refl a) (lit_refl b))

gates_of-append : (ss : List StoredGate) (s : StoredGate) → gates_of (ss ++ s ∷ []) ≡ gates_of ss ++ gate_of s ∷ []
gates_of-append [] s = refl
gates_of-append (t ∷ ss) s = ap (λ gs. gate_of t ∷ gs) (gates_of-append ss s)

stored-append : (ss : List StoredGate) (s : StoredGate) → AreStored ss → IsStored s → AreStored (ss ++ s ∷ [])
stored-append [] s are is = (is, tt)
stored-append (t ∷ ss) s (first, rest) is = (first, stored-append ss s rest is)

pub stored_added : (ss : List StoredGate) (g : Gate) → AreStored ss → AreStored (ss ++ stored_of g ∷ [])
stored_added ss g are = stored-append ss (stored_of g) are (ap stored_of (gate_of-stored g))

pub count_kept : (ss : List StoredGate) → length (gates_of ss) ≡ length ss
count_kept [] = refl
count_kept (s ∷ ss) = ap suc (count_kept ss)

stored_at : (ss : List StoredGate) → AreStored ss → (k : ℕ) → k < length ss → IsStored (slice_index_or ss k no_gate)
stored_at [] are k below = refl
stored_at (s ∷ ss) (is, are) zero below = is
stored_at (s ∷ ss) (is, are) (suc k) below = stored_at ss are k (omega (arith, below))

not_true : (b : Bool) → (b ≡ true → ⊥) → b ≡ false
not_true true f = absurd (f refl)
not_true false f = refl

-- the gate with a number
kept_at : (ss : List StoredGate) (k : ℕ) → slice_index_or (gates_of ss) k (gate_of no_gate) ≡ gate_of (slice_index_or ss k no_gate)
kept_at ss k = get_or-map gate_of ss k no_gate

differs : (g : Gate) (ss : List StoredGate) (k : ℕ) → AreStored ss → k < length ss → (slice_index_or ss k no_gate ≡ stored_of g → ⊥) → same_gate g (slice_index_or (gates_of ss) k (gate_of no_gate)) ≡ false
differs g ss k are below other =
    not_true (same_gate g (slice_index_or (gates_of ss) k (gate_of no_gate)))
    (λ e. other (sym (stored_at ss are k below) ∙ ap stored_of (sym (gate_same g (slice_index_or (gates_of ss) k (gate_of no_gate)) e ∙ kept_at ss k))))

within : (ss : List StoredGate) (k : ℕ) → k < length (gates_of ss) → k < length ss
within ss k below = omega (arith, below, count_kept ss)

module _ (g : Gate) (ss : List StoredGate) (are : AreStored ss) (absent : IsAbsent ss (stored_of g)) where
  pub none_absent : list_any (same_gate g) (gates_of ss) ≡ false
  none_absent =
      let P : Gate → Type 0 = λ h. same_gate g h ≡ false in
      list_any_none (same_gate g) (gates_of ss) (All-from_get_or P (gates_of ss) (gate_of no_gate) (λ k below. differs g ss k are (within ss k below) (absent k (within ss k below))))

  pub place_absent : position_or_len (same_gate g) (gates_of ss) ≡ length ss
  place_absent =
      position_or_len_is (same_gate g) (gates_of ss) (length ss) (gate_of no_gate) (omega (arith, count_kept ss))
      (λ k below. differs g ss k are below (absent k below))
      (λ below. absurd (below_irrefl (length ss) (within ss (length ss) below)))

module _ (g : Gate) (ss : List StoredGate) (are : AreStored ss) (distinct : AreDistinct ss) (i : ℕ) (inside : i < length ss) (is : slice_index_or ss i no_gate ≡ stored_of g) where
  at : same_gate g (slice_index_or (gates_of ss) i (gate_of no_gate)) ≡ true
  at = ap (λ h. same_gate g h) (kept_at ss i ∙ ap gate_of is ∙ gate_of-stored g) ∙ gate_refl g

  reach : i < length (gates_of ss)
  reach = omega (arith, inside, count_kept ss)

  pub some_found : list_any (same_gate g) (gates_of ss) ≡ true
  some_found = list_any_at (same_gate g) (gates_of ss) i (gate_of no_gate) reach at

  pub place_found : position_or_len (same_gate g) (gates_of ss) ≡ i
  place_found =
      position_or_len_is (same_gate g) (gates_of ss) i (gate_of no_gate) (omega (arith, reach))
      (λ k before. differs g ss k are (omega (arith, before, inside)) (λ e. distinct k i before inside (e ∙ sym is)))
      (λ below. at)

-- the circuit with a gate that is there is the same, and a new gate stands last
pub with_there : (n : Netlist) (g : Gate) → list_any (same_gate g) n.gates ≡ true → with_gate n g ≡ n
with_there n g e = ap (λ b. let m : Netlist = record { first = n.first; limit = n.limit; gates = if b then n.gates else n.gates ++ g ∷ [] } in m) e

pub with_new : (n : Netlist) (g : Gate) → list_any (same_gate g) n.gates ≡ false → with_gate n g ≡ record { first = n.first; limit = n.limit; gates = n.gates ++ g ∷ [] }
with_new n g e = ap (λ b. let m : Netlist = record { first = n.first; limit = n.limit; gates = if b then n.gates else n.gates ++ g ∷ [] } in m) e

pub kept_added : (ss : List StoredGate) (g : Gate) → gates_of (ss ++ stored_of g ∷ []) ≡ gates_of ss ++ g ∷ []
kept_added ss g = gates_of-append ss (stored_of g) ∙ ap (λ h. gates_of ss ++ h ∷ []) (gate_of-stored g)

-- a gate that is not there makes a full circuit overfull
one_more : (b : Bool) (n : Netlist) (g : Gate) → b ≡ false → n.limit ≤ length n.gates → n.limit < length (if b then n.gates else n.gates ++ g ∷ [])
one_more true n g e full = absurd (false≢true (sym e))
one_more false n g e full = omega (length-append n.gates (g ∷ []), full, arith)

pub overfull : (n : Netlist) (g : Gate) → list_any (same_gate g) n.gates ≡ false → n.limit ≤ length n.gates → IsOverfull (with_gate n g)
overfull n g none full = record { over = one_more (list_any (same_gate g) n.gates) n g none full }
