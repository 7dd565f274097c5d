use Rattle.std.proofs.Common.{◌≡◌, ℕ, ◌<◌, ◌≤◌, ◌&&◌, length}
use Rattle.queries.specs.Sets.{members}
use Rattle.pair_trial.specs.Trials.{setting_in}
use Rattle.pair_trial.proofs.sets.keep.Given as goal

abbrev pub invariant-loop-number : goal.invariant-loop-number
invariant-loop-number l = record {
  long : length l.set ≡ length l.initial.set;
  done : (k : ℕ) → k < l.number → members l.set k ≡ (members l.initial.set k && (setting_in l.trial).holds k l.trial.pair);
  later : (k : ℕ) → l.number ≤ k → members l.set k ≡ members l.initial.set k;
}
