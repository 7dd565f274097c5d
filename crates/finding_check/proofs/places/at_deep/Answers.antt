use Rattle.std.proofs.Common.{◌+◌, sym, subst}
use Rattle.queries.specs.Comparisons.{Comparison}
use Rattle.queries.specs.Questions.{deep, IsQueryOf}
use Rattle.queries.proofs.SettingLemmas.{IsQueryOf-deep}
use Rattle.pair_trial.specs.Trials.{comparison_of}
use Rattle.finding_check.proofs.places.at_deep.Goals as goal

pub open_checker-requires : goal.open_checker-requires
open_checker-requires g c =
    subst (λ (k : Comparison). IsQueryOf k (deep (c.args.none + 1))) (sym c.requires.compared) (IsQueryOf-deep (comparison_of c.args.trial.now) c.args.none c.requires.deep)

pub open_checker-requires-in-Query : goal.open_checker-requires-in-Query
open_checker-requires-in-Query g c =
    subst (λ (k : Comparison). IsQueryOf k (deep (c.args.none + 1))) (sym c.requires.compared) (IsQueryOf-deep (comparison_of c.args.trial.now) c.args.none c.requires.deep)
