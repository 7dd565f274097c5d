use Rattle.std.proofs.Common.{◌≡◌, ℕ, ◌<◌, true}
use Rattle.queries.specs.Sets.{members}
use Rattle.pair_trial.specs.Trials.{setting_in}
use Rattle.pair_trial.proofs.sets.meets.Given as goal

abbrev pub invariant-loop-number : goal.invariant-loop-number
invariant-loop-number l = (k : ℕ) → k < l.number → members l.set k ≡ true → (setting_in l.trial).holds k l.trial.pair ≡ true
