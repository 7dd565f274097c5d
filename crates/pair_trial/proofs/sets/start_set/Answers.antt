use Rattle.std.proofs.Common.{◌≡◌, length, arith}
use Rattle.pair_trial.specs.Trials.{setting_in}
use Rattle.pair_trial.proofs.SetLemmas.{members-first}
use Rattle.pair_trial.proofs.sets.start_set.Goals as goal

pub returns : goal.returns
returns c =
    let done = c.loop-number.invariant in
    let long : length c.loop-number.set ≡ (setting_in c.args.trial.now).candidates = omega (arith, done.long, c.candidates-number-end.ensures) in
    members-first (setting_in c.args.trial.now) c.loop-number.set long (λ n lt. done.held n (omega (arith, done.long)))
