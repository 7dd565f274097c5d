use Rattle.std.proofs.Common.{sym, subst}
use Rattle.scan_model.specs.Pairs.{Pair}
use Rattle.scan_replay.specs.Duos.{Compared, IsInRangeOf}
use Rattle.queries.proofs.SettingLemmas.{IsPairInRange-test}
use Rattle.pair_trial.specs.Trials.{comparison_of}
use Rattle.pair_trial.proofs.trial.Trial.set_pair.Goals as goal

pub set_pair-requires : goal.set_pair-requires
set_pair-requires c =
    let given : Pair = record { old = c.args.old.now; new = c.args.new.now } in
    subst (λ (d : Compared). IsInRangeOf d given) (sym c.self.view_is) (IsPairInRange-test (comparison_of c.args.self.now) given c.requires)
