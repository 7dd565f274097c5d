-- What a circuit holds, and what stays true of it.
use Rattle.std.specs.Prelude.{◌+◌, ◌^◌, ◌<◌, ◌≤◌, length}
use Rattle.gates.specs.declared.circuit.Circuit.TheInside.{Inside}
use Rattle.gates.specs.Netlists.{Netlist}
use Rattle.gates.specs.Stored.{gates_of, AreStored}

abbrev pub netlist_of : Inside → Netlist
netlist_of c = record { first = c.first; limit = c.limit; gates = gates_of c.gates }

pub record IsWithin (c : Inside) : Type 0 where
  pub few : length c.gates ≤ c.limit
  pub stored : AreStored c.gates
  pub one : 1 < c.first
  pub small : c.first + c.limit < 2 ^ 31 + 1
