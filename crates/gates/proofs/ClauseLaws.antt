-- A circuit's formula is satisfied exactly by its models.
use Rattle.std.proofs.Common.{◌≡◌, ℕ, ◌+◌, Bool, true, false, not, ◌&&◌, ◌||◌, refl, sym, ◌∙◌, ap, List, [], ◌∷◌, map}
use Rattle.std.specs.Prelude.{if◌then◌else◌}
use Rattle.std.specs.Bool.{beq}
use Rattle.std.proofs.lemmas.Bool.{and_parts, and_from}
use Rattle.std.proofs.lemmas.List.Folds.{list_all-append}
use Rattle.clause_core.specs.declared.literal.Lit.{Lit}
use Rattle.clause_core.specs.declared.gate.Gate.{Gate}
use Rattle.clause_core.specs.declared.gate.Gate.TheVariants.{And, Xor, Mux}
use Rattle.clause_core.specs.Clauses.{set_of}
use Rattle.clause_core.specs.Satisfaction.{literal_true, clause_true, formula_true, Satisfies}
use Rattle.clause_core.proofs.Sets.{list_any-set_of}
use Rattle.gates.specs.Literals.{plain}
use Rattle.gates.specs.Meaning.{gate_true, exactly_one}
use Rattle.gates.specs.Netlists.{Netlist}
use Rattle.gates.specs.Models.{IsModel, GatesHold}
use Rattle.gates.specs.Clauses.{clauses_of, gate_clauses, clauses_from, formula_of}
use Rattle.gates.proofs.Booleans.{literal_true-not, beq-true}

-- a clause as a set is true where the clause is
sets_true : (rho : ℕ → Bool) (cs : List (List Lit)) → formula_true rho (map set_of cs) ≡ formula_true rho cs
sets_true rho [] = refl
sets_true rho (c ∷ cs) = ap (λ z. z && formula_true rho (map set_of cs)) (list_any-set_of (literal_true rho) c) ∙ ap (λ z. clause_true rho c && z) (sets_true rho cs)

-- the clauses of AND say that it has its value
and_table : (g a b : Bool) → ((not g || (a || false)) && ((not g || (b || false)) && ((g || (not a || (not b || false))) && true))) ≡ beq g (a && b)
and_table true true true = refl
and_table true true false = refl
and_table true false true = refl
and_table true false false = refl
and_table false true true = refl
and_table false true false = refl
and_table false false true = refl
and_table false false false = refl

and_clauses : (g a b na nb : Bool) → na ≡ not a → nb ≡ not b → ((not g || (a || false)) && ((not g || (b || false)) && ((g || (na || (nb || false))) && true))) ≡ beq g (a && b)
and_clauses g a b na nb e f = rw (e, f) (and_table g a b)

-- the clauses of XOR say that it has its value
xor_table : (g a b : Bool) → ((not g || (a || (b || false))) && ((not g || (not a || (not b || false))) && ((g || (not a || (b || false))) && ((g || (a || (not b || false))) && true)))) ≡ beq g (exactly_one a b)
xor_table true true true = refl
xor_table true true false = refl
xor_table true false true = refl
xor_table true false false = refl
xor_table false true true = refl
xor_table false true false = refl
xor_table false false true = refl
xor_table false false false = refl

xor_clauses : (g a b na nb : Bool) → na ≡ not a → nb ≡ not b → ((not g || (a || (b || false))) && ((not g || (na || (nb || false))) && ((g || (na || (b || false))) && ((g || (a || (nb || false))) && true)))) ≡ beq g (exactly_one a b)
xor_clauses g a b na nb e f = rw (e, f) (xor_table g a b)

-- the clauses of MUX say that it has its value
mux_table : (g c a b : Bool) → ((not c || (not a || (g || false))) && ((not c || (a || (not g || false))) && ((c || (not b || (g || false))) && ((c || (b || (not g || false))) && true)))) ≡ beq g (if c then a else b)
mux_table true true true true = refl
mux_table true true true false = refl
mux_table true true false true = refl
mux_table true true false false = refl
mux_table true false true true = refl
mux_table true false true false = refl
mux_table true false false true = refl
mux_table true false false false = refl
mux_table false true true true = refl
mux_table false true true false = refl
mux_table false true false true = refl
mux_table false true false false = refl
mux_table false false true true = refl
mux_table false false true false = refl
mux_table false false false true = refl
mux_table false false false false = refl

mux_clauses : (g c a b nc na nb : Bool) → nc ≡ not c → na ≡ not a → nb ≡ not b → ((nc || (na || (g || false))) && ((nc || (a || (not g || false))) && ((c || (nb || (g || false))) && ((c || (b || (not g || false))) && true)))) ≡ beq g (if c then a else b)
mux_clauses g c a b nc na nb e f h = rw (e, f, h) (mux_table g c a b)

clauses_of-true : (rho : ℕ → Bool) (x : ℕ) (g : Gate) → formula_true rho (clauses_of (plain x) g) ≡ beq (rho x) (gate_true rho g)
clauses_of-true rho x (And a b) = and_clauses (rho x) (literal_true rho a) (literal_true rho b) _ _ (literal_true-not rho a) (literal_true-not rho b)
clauses_of-true rho x (Xor a b) = xor_clauses (rho x) (literal_true rho a) (literal_true rho b) _ _ (literal_true-not rho a) (literal_true-not rho b)
clauses_of-true rho x (Mux c a b) = mux_clauses (rho x) (literal_true rho c) (literal_true rho a) (literal_true rho b) _ _ _ (literal_true-not rho c) (literal_true-not rho a) (literal_true-not rho b)

gate_clauses-true : (rho : ℕ → Bool) (x : ℕ) (g : Gate) → formula_true rho (gate_clauses x g) ≡ beq (rho x) (gate_true rho g)
gate_clauses-true rho x g = sets_true rho (clauses_of (plain x) g) ∙ clauses_of-true rho x g

beq-from : (a b : Bool) → a ≡ b → beq a b ≡ true
beq-from true true h = refl
beq-from true false h = sym h
beq-from false true h = h
beq-from false false h = refl

pub gate_holds : (rho : ℕ → Bool) (x : ℕ) (g : Gate) → Satisfies rho (gate_clauses x g) → rho x ≡ gate_true rho g
gate_holds rho x g h = beq-true (rho x) (gate_true rho g) (sym (gate_clauses-true rho x g) ∙ h)

pub gate_satisfied : (rho : ℕ → Bool) (x : ℕ) (g : Gate) → rho x ≡ gate_true rho g → Satisfies rho (gate_clauses x g)
gate_satisfied rho x g h = gate_clauses-true rho x g ∙ beq-from (rho x) (gate_true rho g) h

holds_from_clauses : (rho : ℕ → Bool) (x : ℕ) (gs : List Gate) → formula_true rho (clauses_from x gs) ≡ true → GatesHold rho x gs
holds_from_clauses rho x [] h = tt
holds_from_clauses rho x (g ∷ gs) h =
    let (here, later) = and_parts (formula_true rho (gate_clauses x g)) (formula_true rho (clauses_from (x + 1) gs)) (sym (list_all-append (clause_true rho) (gate_clauses x g) (clauses_from (x + 1) gs)) ∙ h) in
    (gate_holds rho x g here, holds_from_clauses rho (x + 1) gs later)

clauses_from_holds : (rho : ℕ → Bool) (x : ℕ) (gs : List Gate) → GatesHold rho x gs → formula_true rho (clauses_from x gs) ≡ true
clauses_from_holds rho x [] h = refl
clauses_from_holds rho x (g ∷ gs) h =
    list_all-append (clause_true rho) (gate_clauses x g) (clauses_from (x + 1) gs)
    ∙ and_from (formula_true rho (gate_clauses x g)) (formula_true rho (clauses_from (x + 1) gs)) (gate_satisfied rho x g h.0) (clauses_from_holds rho (x + 1) gs h.1)

or_none : (a : Bool) → (a || false) ≡ true → a ≡ true
or_none true h = refl
or_none false h = h

pub formula_IsModel : (rho : ℕ → Bool) (n : Netlist) → Satisfies rho (formula_of n) → IsModel rho n
formula_IsModel rho n h =
    let (one, later) = and_parts (rho 1 || false) (formula_true rho (clauses_from n.first n.gates)) h in
    record { one = or_none (rho 1) one; holds = holds_from_clauses rho n.first n.gates later }

pub IsModel_formula : (rho : ℕ → Bool) (n : Netlist) → IsModel rho n → Satisfies rho (formula_of n)
IsModel_formula rho n m = and_from (rho 1 || false) (formula_true rho (clauses_from n.first n.gates)) (ap (λ z. z || false) m.one) (clauses_from_holds rho n.first n.gates m.holds)
