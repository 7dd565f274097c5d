use Rattle.std.proofs.Common.{◌≡◌, ◌-◌, length}
use Rattle.scan_replay.specs.Duos.{with_pair}
use Rattle.pair_trial.specs.Trials.{comparison_of, setting_in}
use Rattle.reach_search.specs.Walks.{IsReached}
use Rattle.reach_search.proofs.reaching.reach.Given as goal

abbrev pub invariant-lists : goal.invariant-lists
invariant-lists g l = record {
  reached : IsReached (comparison_of l.fn.trial) l.rows.items l.trial.pair;
  trial : l.trial ≡ with_pair l.trial.pair l.fn.trial;
}

abbrev pub decreases-lists : goal.decreases-lists
decreases-lists g l = (setting_in l.fn.trial).depth - length l.rows.items
