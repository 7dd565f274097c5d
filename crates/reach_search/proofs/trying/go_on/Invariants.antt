use Rattle.std.proofs.Common.{◌≡◌, ◌≤◌, ◌-◌, length}
use Rattle.scan_replay.specs.Duos.{with_pair}
use Rattle.pair_trial.specs.Trials.{comparison_of, setting_in}
use Rattle.reach_search.specs.Walks.{IsReached}
use Rattle.reach_search.proofs.trying.go_on.Given as goal

abbrev pub invariant-scans : goal.invariant-scans
invariant-scans l = record {
  reached : IsReached (comparison_of l.initial.trial) l.rows.items l.trial.pair;
  longer : length l.initial.rows.items ≤ length l.rows.items;
  trial : l.trial ≡ with_pair l.trial.pair l.initial.trial;
}

abbrev pub decreases-scans : goal.decreases-scans
decreases-scans l = (setting_in l.initial.trial).depth - length l.rows.items
