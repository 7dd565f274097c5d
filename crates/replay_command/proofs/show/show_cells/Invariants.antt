use Rattle.std.proofs.Common.{◌≡◌, ◌++◌, drop, string_bytes}
use Rattle.program_tree.specs.View.{cells_view}
use Rattle.replay_command.specs.Lines.{shown}
use Rattle.replay_command.proofs.show.show_cells.Given as goal

abbrev pub invariant-loop-place : goal.invariant-loop-place
invariant-loop-place l = string_bytes l.line ++ shown (cells_view (drop l.place l.cells)) (drop l.place l.state) ≡ string_bytes l.initial.line ++ shown (cells_view l.cells) l.state
