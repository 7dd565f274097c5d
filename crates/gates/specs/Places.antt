-- How a gate is found again: two numbers near its largest operand say where it is, and a map has those that find both taken.
use Rattle.std.specs.Prelude.{◌≡◌, ℕ, ◌+◌, ◌*◌, ◌/◌, ◌%◌, ◌<◌, Bool, false, List, length, max, Option, Some, cond, slice_index, slice_index_or}
use Rattle.std.specs.HashMap.{HashMap, get}
use Rattle.gates.specs.declared.stored.StoredGate.{StoredGate}
use Rattle.gates.specs.declared.stored.Form.{Form}
use Rattle.gates.specs.declared.stored.Form.TheVariants as forms
use Rattle.gates.specs.contracts.stored.StoredGatePartialEq as derived

abbrev pub no_gate : StoredGate
no_gate = record { form = forms.And; negative_one = false; negative_two = false; negative_three = false; one = 0; two = 0; three = 0 }

abbrev pub form_number : Form → ℕ
form_number forms.And = 0
form_number forms.Xor = 8
form_number forms.Mux = 16

abbrev pub bit_of : Bool → ℕ
bit_of b = cond b 1 0

abbrev pub form_and_signs : StoredGate → ℕ
form_and_signs s = bit_of s.negative_one + 2 * bit_of s.negative_two + 4 * bit_of s.negative_three + form_number s.form

-- gates of one largest operand lie within 1,024 places
abbrev pub scatter_of : StoredGate → ℕ
scatter_of s = (s.one * 663608941 + s.two * 810543755 + s.three * 611861347 + form_and_signs s * 444758533) / 1048576 % 1024

abbrev pub slot_of : StoredGate → ℕ
slot_of s = 2 * max (max s.one s.two) s.three + scatter_of s

-- the number that a map has for a gate
abbrev pub number_in : {S : Type 0} → HashMap StoredGate ℕ S → StoredGate → Option ℕ
number_in m s = get derived.TheImpl.eq-value.it m s

-- the gate is found to be the one numbered k: at its place, at the one behind it, or in the map, and no place before that is free
pub record IsPlaced (near : List ℕ) (far : StoredGate → Option ℕ) (s : StoredGate) (k : ℕ) : Type 0 where
  pub first : 0 < slice_index near (slot_of s)
  pub second : (slice_index near (slot_of s) ≡ k + 1 → ⊥) → 0 < slice_index near (slot_of s + 1)
  pub third : (slice_index near (slot_of s) ≡ k + 1 → ⊥) → (slice_index near (slot_of s + 1) ≡ k + 1 → ⊥) → far s ≡ Some k

-- what is taken stays so
abbrev pub Keeps : List ℕ → List ℕ → Type 0
Keeps near later = (j : ℕ) → 0 < slice_index near j → slice_index later j ≡ slice_index near j

-- no gate of the list is this one
abbrev pub IsAbsent : List StoredGate → StoredGate → Type 0
IsAbsent gs s = (k : ℕ) → k < length gs → slice_index_or gs k no_gate ≡ s → ⊥

-- no gate stands twice in the list
abbrev pub AreDistinct : List StoredGate → Type 0
AreDistinct gs = (i j : ℕ) → i < j → j < length gs → slice_index_or gs i no_gate ≡ slice_index_or gs j no_gate → ⊥

abbrev pub ArePlaced : List ℕ → (StoredGate → Option ℕ) → List StoredGate → Type 0
ArePlaced near far gs = (k : ℕ) → k < length gs → IsPlaced near far (slice_index_or gs k no_gate) k
