use Rattle.std.proofs.Common.{arith}
use Rattle.pair_trial.specs.Trials.{setting_in}
use Rattle.pair_trial.proofs.SetLemmas.{members-left}
use Rattle.pair_trial.proofs.sets.keep.Goals as goal

pub returns : goal.returns
returns c =
    let done = c.loop-number.invariant in
    members-left (setting_in c.args.trial.now) c.args.set.now c.loop-number.set c.args.trial.now.pair done.long (λ n lt. done.done n (omega (arith, done.long, c.count-number-end.ensures)))
