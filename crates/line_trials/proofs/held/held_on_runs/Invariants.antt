use Rattle.std.proofs.Common.{◌≡◌, drop}
use Rattle.program_tree.specs.View.{program_view}
use Rattle.scan_model.specs.Pairs.{relation_view}
use Rattle.line_trials.specs.Held.{runs_of, held_on_runs}
use Rattle.line_trials.proofs.held.held_on_runs.Given as goal

abbrev pub invariant-loop-run : goal.invariant-loop-run
invariant-loop-run l = record {
  old : l.duo.old_program ≡ l.old;
  new : l.duo.new_program ≡ l.new;
  relation : l.duo.relation ≡ l.relation;
  rest : held_on_runs (program_view l.old) (program_view l.new) (relation_view l.relation) l.first l.count (runs_of l.runs)
      ≡ held_on_runs (program_view l.old) (program_view l.new) (relation_view l.relation) l.first l.count (runs_of (drop l.run-index l.runs));
}
