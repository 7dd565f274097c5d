use Rattle.std.proofs.Common.{◌≡◌, ◌∙◌, ap, sym, subst, List, [], ◌∷◌, ◌++◌}
use Rattle.scan_model.specs.InRange.{Row}
use Rattle.scan_model.specs.Pairs.{Pair}
use Rattle.scan_replay.specs.Duos.{Compared}
use Rattle.pair_trial.specs.Trials.{comparison_of, setting_in}
use Rattle.reach_search.specs.Walks.{IsReached}
use Rattle.reach_search.proofs.WalkLemmas.{reached_more}
use Rattle.reach_search.proofs.trying.go_by.Goals as goal

pub returns-clause-reached : goal.returns-clause-reached
returns-clause-reached c =
    let k = comparison_of c.args.trial.now in
    let s = setting_in c.args.trial.now in
    let here = reached_more k c.args.rows.now.items c.args.trial.now.pair c.args.row c.requires.reached c.requires.below c.requires.allowed in
    let same : c.step.new.self.pair ≡ s.after c.args.row c.args.trial.now.pair =
    ap (λ (d : Compared). d.pair) c.step.ensures ∙ ap (λ (r : Row). s.after r c.args.trial.now.pair) c.as_slice.ensures
    in
    subst (λ (rows : List Row). IsReached k rows c.step.new.self.pair) (sym c.in_ok-add.ensures)
    (subst (λ (p : Pair). IsReached k (c.args.rows.now.items ++ c.args.row ∷ []) p) (sym same) here)
