-- Circuits whose gates stand after their operands.
use Rattle.std.specs.Prelude.{ℕ, ◌+◌, ◌<◌, ◌≤◌, Bool, true, ◌&&◌, List, [], ◌∷◌, length, nat_lt, IsTrue}
use Rattle.clause_core.specs.declared.literal.Lit.{Lit}
use Rattle.clause_core.specs.declared.gate.Gate.{Gate}
use Rattle.clause_core.specs.declared.gate.Gate.TheVariants.{And, Xor, Mux}
use Rattle.gates.specs.Netlists.{Netlist, Made}

-- the literal's variable is one from 1 on, before x
abbrev pub lit_below : ℕ → Lit → Bool
lit_below x l = nat_lt 0 l.variable && nat_lt l.variable x

abbrev pub gate_below : ℕ → Gate → Bool
gate_below x (And a b) = lit_below x a && lit_below x b
gate_below x (Xor a b) = lit_below x a && lit_below x b
gate_below x (Mux c a b) = lit_below x c && (lit_below x a && lit_below x b)

-- the operands of each gate stand before it, the first gate being the variable x
abbrev pub is_ordered : ℕ → List Gate → Bool
is_ordered x [] = true
is_ordered x (g ∷ gs) = gate_below x g && is_ordered (x + 1) gs

-- the first number that is no variable
abbrev pub end_of : Netlist → ℕ
end_of n = n.first + length n.gates

-- TRUE stands before the gates, and each gate after its operands
pub record IsOrdered (n : Netlist) : Type 0 where
  pub one : 1 < n.first
  pub ordered : IsTrue (is_ordered n.first n.gates)

-- a literal of the circuit
pub record IsLiteralOf (n : Netlist) (l : Lit) : Type 0 where
  pub below : IsTrue (lit_below (end_of n) l)

-- each gate of the circuit stands after its operands, the literal is one of its, and no variable before `start` is lost
pub record IsOrderedAfter (start : ℕ) (made : Made) : Type 0 where
  pub ordered : IsOrdered made.net
  pub more : start ≤ end_of made.net
  pub literal : IsLiteralOf made.net made.lit
