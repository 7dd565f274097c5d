use Rattle.std.proofs.Common.{◌≡◌, drop}
use Rattle.scan_replay.specs.Duos.{with_pair}
use Rattle.pair_trial.specs.Trials.{comparison_of}
use Rattle.reach_search.proofs.WalkLemmas.{RunsOn}
use Rattle.reach_search.proofs.trying.run_rows.Given as goal

abbrev pub invariant-loop-row : goal.invariant-loop-row
invariant-loop-row l = record {
  runs : RunsOn (comparison_of l.fn.trial) l.rows (drop l.row-index l.rows) l.trial.pair;
  trial : l.trial ≡ with_pair l.trial.pair l.fn.trial;
}
