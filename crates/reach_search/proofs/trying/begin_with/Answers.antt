use Rattle.std.proofs.Common.{◌≡◌, ◌∙◌, ap, sym, subst, List, [], ◌∷◌, ◌++◌}
use Rattle.scan_model.specs.InRange.{Row}
use Rattle.scan_model.specs.Pairs.{Pair}
use Rattle.scan_replay.specs.Duos.{Compared}
use Rattle.pair_trial.specs.Trials.{comparison_of, setting_in}
use Rattle.reach_search.specs.Walks.{IsReached}
use Rattle.reach_search.proofs.WalkLemmas.{reached_first}
use Rattle.reach_search.proofs.trying.begin_with.Goals as goal

pub returns-clause-reached : goal.returns-clause-reached
returns-clause-reached c =
    let k = comparison_of c.args.trial.now in
    let s = setting_in c.args.trial.now in
    let here = reached_first k c.args.row.now c.requires.comparison c.requires.allowed in
    let listed : c.add.new.rows.items ≡ c.args.row.now ∷ [] =
    c.in_ok-add.ensures ∙ ap (λ (rs : List Row). rs ++ c.in_ok-copy.copy ∷ []) c.new-rows.ensures.items ∙ ap (λ (r : Row). r ∷ []) c.in_ok-copy.ensures
    in
    let led : c.step.new.self.pair ≡ s.after c.args.row.now s.start =
    ap (λ (d : Compared). d.pair) c.step.ensures ∙ ap (λ (d : Compared). (setting_in d).after c.as_slice.result.now d.pair) c.reset.ensures
    ∙ ap (λ (r : Row). s.after r s.start) c.as_slice.ensures
    in
    subst (λ (rows : List Row). IsReached k rows c.step.new.self.pair) (sym listed) (subst (λ (p : Pair). IsReached k (c.args.row.now ∷ []) p) (sym led) here)
