-- Where the words of variables are put: a word may be written over once the variable that it holds is read no more.
use Rattle.std.specs.Prelude.{◌≡◌, ℕ, ◌+◌, ◌<◌, ◌≤◌, Bool, not, List, length, slice_index, slice_index_or}
use Rattle.std.specs.List.{All}
use Rattle.std.specs.Bool.{beq}
use Rattle.clause_core.specs.declared.literal.Lit.{Lit}
use Rattle.clause_core.specs.Satisfaction.{literal_true}
use Rattle.gates.specs.Literals.{plain}
use Rattle.gates.specs.Models.{IsModel}
use Rattle.gates.specs.Netlists.{Netlist}
use Rattle.gates.specs.Order.{end_of}
use Rattle.lane_sim.specs.declared.choice.Choice.{Choice}
use Rattle.lane_sim.specs.declared.layout.Layout.{Layout}
use Rattle.lane_sim.specs.Steps.{IsStepWithin, stepped}
use Rattle.lane_sim.specs.Uses.{IsAlive}

-- the literal over words that says what the variable x is
abbrev pub place_in : List Lit → ℕ → Lit
place_in places x = slice_index_or places x (plain 0)

-- the literal over words that says what a literal is, from that of its variable
abbrev pub with_sign : Lit → Lit → Lit
with_sign place l = record { variable = place.variable; negative = not (beq place.negative l.negative) }

abbrev pub literal_in : List Lit → Lit → Lit
literal_in places l = with_sign (place_in places l.variable) l

abbrev pub choice_in : List Lit → Choice → Choice
choice_in places c = record { condition = literal_in places c.condition; yes = literal_in places c.yes; no = literal_in places c.no }

-- the word at a place holds a variable that neither x nor a later one reads
pub record IsOver (holders last : List ℕ) (x word : ℕ) : Type 0 where
  pub inside : word < length holders
  pub over : slice_index last (slice_index holders word) ≤ x

-- x was put at a place that is new, or whose variable is over
pub record IsTaken (last : List ℕ) (x : ℕ) (before after : List ℕ) (word : ℕ) : Type 0 where
  pub inside : word < length after
  pub more : length before ≤ length after
  pub most : length after ≤ length before + 1
  pub here : slice_index after word ≡ x
  pub others : (p : ℕ) → p < length before → (p ≡ word → ⊥) → slice_index after p ≡ slice_index before p
  pub kept : (p : ℕ) → p < length before → x < slice_index last (slice_index before p) → p ≡ word → ⊥

-- the word at the place of y holds y
pub record IsHeld (p : Layout) (y : ℕ) : Type 0 where
  pub inside : (place_in p.places.items y).variable < length p.holders.items
  pub holder : slice_index p.holders.items (place_in p.places.items y).variable ≡ y

-- TRUE and the free bits stand at their numbers
abbrev pub StartsAs : ℕ → (ℕ → Bool) → (ℕ → Bool) → Type 0
StartsAs first w v = (x : ℕ) → 0 < x → x < first → w x ≡ v x

-- the variable y has its value at its place, whatever the free bits are
abbrev pub IsRight : Netlist → Layout → ℕ → Type 0
IsRight n p y = (v w : ℕ → Bool) → IsModel v n → StartsAs n.first w v → literal_true (stepped p.steps.items w) (place_in p.places.items y) ≡ v y

-- the variables before x were put
pub record IsLaidOut (n : Netlist) (last : List ℕ) (x : ℕ) (p : Layout) : Type 0 where
  pub len : length p.places.items ≡ end_of n
  pub enough : n.first ≤ length p.holders.items
  pub few : length p.holders.items ≤ x
  pub within : All (IsStepWithin (length p.holders.items)) p.steps.items
  pub held : (y : ℕ) → IsAlive last x y → IsHeld p y
  pub right : (y : ℕ) → IsAlive last x y → IsRight n p y
