-- The clauses of a gate, and a circuit's formula.
use Rattle.std.specs.Prelude.{ℕ, ◌+◌, List, [], ◌∷◌, ◌++◌, map}
use Rattle.clause_core.specs.declared.literal.Lit.{Lit}
use Rattle.clause_core.specs.declared.gate.Gate.{Gate}
use Rattle.clause_core.specs.declared.gate.Gate.TheVariants.{And, Xor, Mux}
use Rattle.clause_core.specs.Values.{negation}
use Rattle.clause_core.specs.Clauses.{set_of}
use Rattle.clause_core.specs.Formula.{Formula}
use Rattle.gates.specs.Literals.{plain, true_lit}
use Rattle.gates.specs.Netlists.{Netlist}

-- the clauses of the gate whose literal is g: -g ∨ a, -g ∨ b, g ∨ -a ∨ -b and so on
abbrev pub clauses_of : Lit → Gate → List (List Lit)
clauses_of g (And a b) =
    (negation g ∷ a ∷ []) ∷ (negation g ∷ b ∷ [])
    ∷ (g ∷ negation a ∷ negation b ∷ []) ∷ []
clauses_of g (Xor a b) =
    (negation g ∷ a ∷ b ∷ []) ∷ (negation g ∷ negation a ∷ negation b ∷ [])
    ∷ (g ∷ negation a ∷ b ∷ []) ∷ (g ∷ a ∷ negation b ∷ []) ∷ []
clauses_of g (Mux c a b) =
    (negation c ∷ negation a ∷ g ∷ []) ∷ (negation c ∷ a ∷ negation g ∷ [])
    ∷ (c ∷ negation b ∷ g ∷ []) ∷ (c ∷ b ∷ negation g ∷ []) ∷ []

-- each clause as a set of literals
abbrev pub gate_clauses : ℕ → Gate → List (List Lit)
gate_clauses x g = map set_of (clauses_of (plain x) g)

-- those of each gate, the first being the variable x
abbrev pub clauses_from : ℕ → List Gate → List (List Lit)
clauses_from x [] = []
clauses_from x (g ∷ gs) = gate_clauses x g ++ clauses_from (x + 1) gs

-- the clause (1), then those of the gates
abbrev pub formula_of : Netlist → List (List Lit)
formula_of n = (true_lit ∷ []) ∷ clauses_from n.first n.gates

-- the formula with more clauses, behind the others
abbrev pub with_clauses : Formula → List (List Lit) → Formula
with_clauses f more = record { variables = f.variables; clauses = f.clauses ++ more }
