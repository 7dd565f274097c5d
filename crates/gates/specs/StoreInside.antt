-- What a list of gates holds beside the gates, and what stays true of it.
use Rattle.std.specs.Prelude.{List}
use Rattle.gates.specs.declared.store.GateStore.TheInside.{Inside}
use Rattle.gates.specs.declared.stored.StoredGate.{StoredGate}
use Rattle.gates.specs.Places.{ArePlaced, AreDistinct, number_in}

abbrev pub gates_in : Inside → List StoredGate
gates_in s = s.gates.items

pub record IsFindable (s : Inside) : Type 0 where
  pub placed : ArePlaced s.near.items (number_in s.far) s.gates.items
  pub distinct : AreDistinct s.gates.items
