-- How long the variables of a circuit are read.
use Rattle.std.specs.Prelude.{ℕ, ◌+◌, ◌<◌, ◌≤◌, List, length, slice_index, slice_index_or}
use Rattle.clause_core.specs.declared.gate.Gate.{Gate}
use Rattle.gates.specs.Netlists.{Netlist}
use Rattle.lane_sim.specs.declared.choice.Choice.{Choice}
use Rattle.lane_sim.specs.Choices.{EachOf, choice_of}

-- the literals of the choice are read by x, or by one behind it
abbrev pub IsReadUntil : ℕ → List ℕ → Choice → Type 0
IsReadUntil x last c = EachOf (λ l. x ≤ slice_index last l.variable) c

-- no number is less than it was
abbrev pub HasGrown : List ℕ → List ℕ → Type 0
HasGrown old new = (y : ℕ) → slice_index old y ≤ slice_index new y

-- each gate from place k on that is itself read has its operands read until then
abbrev pub AreReadFrom : ℕ → Netlist → List ℕ → Type 0
AreReadFrom k n last =
    (i : ℕ) (g : Gate) → k ≤ i → i < length n.gates → 0 < slice_index last (n.first + i) → IsReadUntil (n.first + i) last (choice_of (slice_index_or n.gates i g))

-- y stands before x, and is read by x or by one behind it
pub record IsAlive (last : List ℕ) (x y : ℕ) : Type 0 where
  pub one : 0 < y
  pub before : y < x
  pub later : x ≤ slice_index last y
