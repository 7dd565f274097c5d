-- What callers see of a plan of a circuit's runs.
use Rattle.std.specs.Prelude.{◌≡◌, ℕ, ◌<◌, ◌≤◌, ◌&&◌, Bool, List, Option, Some, None, length, slice_index, nat_lt, nat_le, if◌then◌else◌}
use Rattle.std.specs.List.{All}
use Rattle.clause_core.specs.declared.literal.Lit.{Lit}
use Rattle.clause_core.specs.Satisfaction.{literal_true}
use Rattle.gates.specs.Models.{IsModel}
use Rattle.gates.specs.Netlists.{Netlist}
use Rattle.gates.specs.Order.{end_of}
use Rattle.lane_sim.specs.declared.step.Step.{Step}
use Rattle.lane_sim.specs.Steps.{IsStepWithin, stepped}
use Rattle.lane_sim.specs.Layouts.{place_in, literal_in, StartsAs}

-- the circuit, how many words a run needs, the last variable that reads each variable (a number behind the circuit where it
-- is read behind a run), and the literal over words that says what each is
pub record PlannedRun : Type 0 where
  pub net : Netlist
  pub words : ℕ
  pub last : List ℕ
  pub places : List Lit

-- the literal is read behind a run
abbrev pub is_kept : PlannedRun → Lit → Bool
is_kept p l = nat_lt 0 l.variable && nat_le (end_of p.net) (slice_index p.last l.variable)

-- the literal over words that says what a literal is behind a run
abbrev pub place_of : PlannedRun → Lit → Option Lit
place_of p l = if is_kept p l then Some (literal_in p.places l) else None

-- each literal that is read behind a run has its value at its place
abbrev pub ReadsAs : PlannedRun → (ℕ → Bool) → (ℕ → Bool) → Type 0
ReadsAs p w v = (l q : Lit) → place_of p l ≡ Some q → literal_true w q ≡ literal_true v l

-- the steps give each variable that is read behind a run its value at its place, whatever the free bits are
pub record AreStepsOf (p : PlannedRun) (steps : List Step) : Type 0 where
  pub enough : p.net.first ≤ p.words
  pub within : All (IsStepWithin p.words) steps
  pub len : length p.places ≡ end_of p.net
  pub size : length p.last ≡ end_of p.net
  pub inside : (y : ℕ) → 0 < y → end_of p.net ≤ slice_index p.last y → (place_in p.places y).variable < p.words
  pub right : (v w : ℕ → Bool) → IsModel v p.net → StartsAs p.net.first w v → (y : ℕ) → 0 < y → end_of p.net ≤ slice_index p.last y → literal_true (stepped steps w) (place_in p.places y) ≡ v y
