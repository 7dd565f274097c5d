-- Words of 256 lanes, and what they are after a run of a circuit.
use Rattle.std.specs.Prelude.{◌≡◌, ℕ, ◌+◌, ◌<◌, ◌/◌, ◌%◌, Bool, List, [], length, nat_eq, slice_index, slice_index_or}
use Rattle.std.specs.Int.{bit_at}
use Rattle.gates.specs.Netlists.{Netlist}
use Rattle.gates.specs.Models.{IsModel}

-- lane j of a word of four numbers of 64 bits: bit j % 64 of number j / 64
abbrev pub lane : List ℕ → ℕ → Bool
lane word j = nat_eq (bit_at (slice_index word (j / 64)) (j % 64)) 1

-- lane j of the words of all variables, where the word of variable x stands at place x
abbrev pub assignment_of : ℕ → List (List ℕ) → ℕ → Bool
assignment_of j words x = lane (slice_index_or words x []) j

-- the assignment gives each gate of the circuit its value, and the free bits those of lane j
pub record IsRunOf (n : Netlist) (free : List (List ℕ)) (j : ℕ) (v : ℕ → Bool) : Type 0 where
  pub model : IsModel v n
  pub bits : (i : ℕ) → i < length free → v (i + 2) ≡ assignment_of j free i
