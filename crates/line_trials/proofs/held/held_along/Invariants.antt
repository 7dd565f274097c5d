use Rattle.std.proofs.Common.{◌≡◌, drop}
use Rattle.scan_replay.specs.Duos.{with_pair}
use Rattle.line_trials.specs.Held.{rows_of}
use Rattle.line_trials.proofs.HeldLemmas.{to_come}
use Rattle.line_trials.proofs.held.held_along.Given as goal

abbrev pub invariant-loop-row : goal.invariant-loop-row
invariant-loop-row l = record {
  same : l.duo ≡ with_pair l.duo.pair l.initial.duo;
  rest : to_come l.initial.duo l.first l.count (rows_of l.rows) l.initial.duo.pair ≡ to_come l.initial.duo l.first l.count (rows_of (drop l.row-index l.rows)) l.duo.pair;
}
