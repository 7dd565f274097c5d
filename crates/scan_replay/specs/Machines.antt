-- Programs that run.
use Rattle.std.specs.Prelude.{ℕ, ◌+◌, length, Bool}
use Rattle.program_tree.specs.declared.typed.Program.{Program}
use Rattle.program_tree.specs.Cells.{inputs_of}
use Rattle.program_tree.specs.View.{program_view, cells_view, stmts_view, all_called_view}
use Rattle.meaning.specs.Values.{State}
use Rattle.meaning.specs.Room.{room_for, markings_in_all}
use Rattle.scan_model.specs.Scans.{ranges_of}
use Rattle.scan_model.specs.InRange.{Row, fits_places, put_at}

-- a program with a state of it
pub record Running : Type 0 where
  pub program : Program
  pub state : State

-- a row has one number for each input, in its range
abbrev pub fits_inputs : Program → Row → Bool
fits_inputs p row = fits_places (ranges_of (cells_view p.cells.items)) (inputs_of (program_view p)) row

-- a row in the inputs
abbrev pub with_inputs : Program → Row → State → State
with_inputs p row s = put_at (inputs_of (program_view p)) row s

-- the room that a program's calls and charts take
abbrev pub room_of_program : Program → ℕ
room_of_program p = room_for (all_called_view p.called.items) (length p.called.items) + markings_in_all (stmts_view p.body.items)
