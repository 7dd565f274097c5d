-- A circuit's gates, and what a plan makes of them: a gate that was already made is used again.
use Rattle.std.specs.Prelude.{◌≡◌, ℕ, ◌+◌, ◌<◌, ◌≤◌, Bool, false, ◌&&◌, List, [], ◌∷◌, ◌++◌, length, if◌then◌else◌}
use Rattle.std.specs.List.{list_any, position_or_len}
use Rattle.clause_core.specs.declared.literal.Lit.{Lit}
use Rattle.clause_core.specs.declared.gate.Gate.{Gate}
use Rattle.clause_core.specs.declared.gate.Gate.TheVariants.{And, Xor, Mux}
use Rattle.gates.specs.declared.plan.Plan.{Plan}
use Rattle.gates.specs.declared.plan.Plan.TheVariants.{Ready, Ask}
use Rattle.gates.specs.Literals.{same_lit}

-- the gates in the order in which they were made, the first of them being the variable `first`,
-- and how many there may be
pub record Netlist : Type 0 where
  pub first : ℕ
  pub limit : ℕ
  pub gates : List Gate

-- a literal, and the circuit after it was made
pub record Made : Type 0 where
  pub lit : Lit
  pub net : Netlist

-- the same form and the same operands
abbrev pub same_gate : Gate → Gate → Bool
same_gate (And a b) (And c d) = same_lit a c && same_lit b d
same_gate (And a b) (Xor c d) = false
same_gate (And a b) (Mux d e f) = false
same_gate (Xor a b) (Xor c d) = same_lit a c && same_lit b d
same_gate (Xor a b) (And c d) = false
same_gate (Xor a b) (Mux d e f) = false
same_gate (Mux c a b) (Mux d e f) = same_lit c d && (same_lit a e && same_lit b f)
same_gate (Mux c a b) (And d e) = false
same_gate (Mux c a b) (Xor d e) = false

-- the circuit with the gate, once
abbrev pub with_gate : Netlist → Gate → Netlist
with_gate n g = record { first = n.first; limit = n.limit; gates = if list_any (same_gate g) n.gates then n.gates else n.gates ++ g ∷ [] }

-- the variable that the gate is, there already or the next
abbrev pub variable_of : Netlist → Gate → ℕ
variable_of n g = n.first + position_or_len (same_gate g) n.gates

-- what a plan comes to
abbrev pub make : Plan → Netlist → Made
make (Ready l) n = record { lit = l; net = n }
make (Ask g negative) n = record { lit = record { variable = variable_of n g; negative = negative }; net = with_gate n g }

-- there are more gates than there may be
pub record IsOverfull (n : Netlist) : Type 0 where
  pub over : n.limit < length n.gates

-- there are at most as many gates as there may be
abbrev pub IsWithinLimit : Netlist → Type 0
IsWithinLimit n = length n.gates ≤ n.limit

-- the circuit `later` begins with the gates of `n`
pub record IsExtensionOf (n later : Netlist) : Type 0 where
  pub first : later.first ≡ n.first
  pub limit : later.limit ≡ n.limit
  pub more : List Gate
  pub gates : later.gates ≡ n.gates ++ more
