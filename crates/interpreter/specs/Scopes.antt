-- What evaluations and runs read.
use Rattle.std.specs.Prelude.{◌++◌, ℕ}
use Rattle.program_tree.specs.View.{all_called_view}
use Rattle.interpreter.specs.declared.scope.Scope.{Scope}
use Rattle.interpreter.specs.declared.scope.Reading.{Reading}
use Rattle.meaning.specs.Values.{State, Callees}
use Rattle.meaning.specs.Calls.{callees_of}
use Rattle.meaning.specs.Room.{room_for}

-- what the POUs do that may be called
abbrev pub callees_here : Scope → Callees
callees_here scope = callees_of (all_called_view scope.called.now) scope.below

-- the room that their calls take
abbrev pub room_here : Scope → ℕ
room_here scope = room_for (all_called_view scope.called.now) scope.below

-- the cells that an evaluation reads
abbrev pub cells_read : Reading → State
cells_read reading = reading.first.now ++ reading.second.now
