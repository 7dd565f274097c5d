-- Assignments that give each gate of a circuit its value.
use Rattle.std.specs.Prelude.{◌≡◌, ℕ, ◌+◌, ◌<◌, Bool, true, List, [], ◌∷◌, length, nat_eq, if◌then◌else◌}
use Rattle.clause_core.specs.declared.gate.Gate.{Gate}
use Rattle.gates.specs.Meaning.{gate_true}
use Rattle.gates.specs.Netlists.{Netlist}

-- the variable of each gate has the gate's value, the first gate being the variable x
abbrev pub GatesHold : (ℕ → Bool) → ℕ → List Gate → Type 0
GatesHold v x [] = Unit {0}
GatesHold v x (g ∷ gs) = (v x ≡ gate_true v g) × GatesHold v (x + 1) gs

-- TRUE is true, and each gate has its value
pub record IsModel (v : ℕ → Bool) (n : Netlist) : Type 0 where
  pub one : v 1 ≡ true
  pub holds : GatesHold v n.first n.gates

-- the assignment with one variable changed
abbrev pub put : (ℕ → Bool) → ℕ → Bool → ℕ → Bool
put v x b y = if nat_eq y x then b else v y

-- the assignment of a setting of the variables before the gates: each gate in turn takes its value
abbrev pub extended : (ℕ → Bool) → ℕ → List Gate → ℕ → Bool
extended v x [] = v
extended v x (g ∷ gs) = extended (put v x (gate_true v g)) (x + 1) gs

-- two assignments agree on the variables below x
abbrev pub Agrees : ℕ → (ℕ → Bool) → (ℕ → Bool) → Type 0
Agrees x v w = (y : ℕ) → y < x → v y ≡ w y

-- a setting of TRUE and the free bits extends to a model, and to one alone
pub record ExtendsOnce (n : Netlist) (setting : ℕ → Bool) : Type 0 where
  pub model : IsModel (extended setting n.first n.gates) n
  pub keeps : Agrees n.first (extended setting n.first n.gates) setting
  pub only : (v : ℕ → Bool) → IsModel v n → Agrees n.first v setting → Agrees (n.first + length n.gates) v (extended setting n.first n.gates)
