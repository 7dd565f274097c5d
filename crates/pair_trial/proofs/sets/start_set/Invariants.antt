use Rattle.std.proofs.Common.{◌≡◌, ℕ, ◌<◌, length}
use Rattle.queries.specs.Sets.{members}
use Rattle.pair_trial.specs.Trials.{setting_in}
use Rattle.pair_trial.proofs.sets.start_set.Given as goal

abbrev pub invariant-loop-number : goal.invariant-loop-number
invariant-loop-number l = record {
  long : length l.set ≡ l.number;
  held : (k : ℕ) → k < l.number → members l.set k ≡ (setting_in l.trial).holds k (setting_in l.trial).start;
}
