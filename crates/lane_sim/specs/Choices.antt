-- Each gate as a choice between two literals.
use Rattle.std.specs.Prelude.{ℕ, ◌<◌, Bool, if◌then◌else◌}
use Rattle.clause_core.specs.declared.literal.Lit.{Lit}
use Rattle.clause_core.specs.declared.gate.Gate.{Gate}
use Rattle.clause_core.specs.declared.gate.Gate.TheVariants.{And, Xor, Mux}
use Rattle.clause_core.specs.Satisfaction.{literal_true}
use Rattle.clause_core.specs.Values.{negation}
use Rattle.gates.specs.Literals.{false_lit}
use Rattle.lane_sim.specs.declared.choice.Choice.{Choice}

abbrev pub choice_of : Gate → Choice
choice_of (And a b) = record { condition = a; yes = b; no = false_lit }
choice_of (Xor a b) = record { condition = a; yes = negation b; no = b }
choice_of (Mux c a b) = record { condition = c; yes = a; no = b }

abbrev pub choice_true : (ℕ → Bool) → Choice → Bool
choice_true v c = if literal_true v c.condition then literal_true v c.yes else literal_true v c.no

-- P of each of the three literals
pub record EachOf (P : Lit → Type 0) (c : Choice) : Type 0 where
  pub condition : P c.condition
  pub yes : P c.yes
  pub no : P c.no

-- the literals' variables stand before x, and none is 0
abbrev pub IsChoiceBelow : ℕ → Choice → Type 0
IsChoiceBelow x c = EachOf (λ l. (0 < l.variable) × (l.variable < x)) c
