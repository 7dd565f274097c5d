use Rattle.std.proofs.Common.{◌+◌, ◌≤◌, arith, sym, subst}
use Rattle.queries.specs.Comparisons.{Comparison}
use Rattle.pair_trial.specs.Trials.{comparison_of}
use Rattle.finding_check.proofs.RoomLemmas.{IsQueryOf-walk}
use Rattle.finding_check.proofs.places.at_walks.Goals as goal

pub open_checker-requires : goal.open_checker-requires
open_checker-requires g c =
    let is = IsQueryOf-walk (comparison_of c.args.trial.now) c.args.rows c.requires.deep in
    subst (λ (k : Comparison). (1 ≤ c.args.rows + 1) × (c.args.rows + 1 ≤ k.relation.depth)) (sym c.requires.compared) ((omega arith), (let most = is.1 in omega (arith, most)))

pub open_checker-requires-in-Query : goal.open_checker-requires-in-Query
open_checker-requires-in-Query g c =
    let is = IsQueryOf-walk (comparison_of c.args.trial.now) c.args.rows c.requires.deep in
    subst (λ (k : Comparison). (1 ≤ c.args.rows + 1) × (c.args.rows + 1 ≤ k.relation.depth)) (sym c.requires.compared) ((omega arith), (let most = is.1 in omega (arith, most)))
