use Rattle.std.proofs.Common.{sym, ◌∙◌, arith, ◌<◌}
use Rattle.queries.specs.Sets.{members}
use Rattle.queries.proofs.SettingLemmas.{meets-from, meets-fails_at}
use Rattle.pair_trial.specs.Trials.{setting_in}
use Rattle.pair_trial.proofs.sets.meets.Goals as goal

pub returns-then-not-holds : goal.returns-then-not-holds
returns-then-not-holds c =
    let below : c.loop-number.number < (setting_in c.args.trial.now).candidates = omega (arith, c.candidates-number-end.ensures) in
    sym (meets-fails_at (setting_in c.args.trial.now) (members c.args.set.now) c.args.trial.now.pair c.loop-number.number below (sym c.has.ensures ∙ c.if-has.true) (sym c.holds.ensures ∙ c.if-not-holds.true))

pub returns : goal.returns
returns c = sym (meets-from (setting_in c.args.trial.now) (members c.args.set.now) c.args.trial.now.pair (λ k lt inside. c.loop-number.invariant k (omega arith) inside))
