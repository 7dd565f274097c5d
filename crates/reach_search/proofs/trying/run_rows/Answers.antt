use Rattle.std.proofs.Common.{◌≡◌, ◌+◌, ◌∙◌, ap, sym, subst, true, drop}
use Rattle.scan_model.specs.InRange.{Row}
use Rattle.scan_model.specs.Pairs.{Pair}
use Rattle.scan_replay.specs.Duos.{Compared}
use Rattle.pair_trial.specs.Trials.{comparison_of, setting_in}
use Rattle.reach_search.proofs.WalkLemmas.{RunsOn, runs_from_start, next_allowed, runs_next, still, put}
use Rattle.reach_search.proofs.trying.run_rows.Goals as goal

pub loop-row-init : goal.loop-row-init
loop-row-init c =
    let k = comparison_of c.args.trial.now in
    record {
      runs = subst (λ (p : Pair). RunsOn k c.args.rows.now c.args.rows.now p) (sym (ap (λ (d : Compared). d.pair) c.reset.ensures)) (runs_from_start k c.args.rows.now c.requires);
      trial = put (setting_in c.args.trial.now).start c.args.trial.now c.reset.new.self c.reset.ensures;
    }

pub step-requires : goal.step-requires
step-requires c =
    let k = comparison_of c.args.trial.now in
    let pair = c.loop-row.trial.pair in
    subst (λ (r : Row). (setting_in c.loop-row.trial).allowed r pair ≡ true) (sym c.as_slice.ensures)
    (subst (λ (d : Compared). (setting_in d).allowed c.row-item.result pair ≡ true) (sym c.loop-row.invariant.trial)
    (next_allowed k c.args.rows.now c.loop-row.row-index c.row-item.result pair c.loop-row-test.true c.row-item.is c.loop-row.invariant.runs))

pub loop-row-preserved : goal.loop-row-preserved
loop-row-preserved c =
    let k = comparison_of c.args.trial.now in
    let pair = c.loop-row.trial.pair in
    let led : c.step.new.self.pair ≡ (setting_in c.args.trial.now).after c.row-item.result pair =
    ap (λ (d : Compared). d.pair) c.step.ensures ∙ ap (λ (r : Row). (setting_in c.loop-row.trial).after r pair) c.as_slice.ensures
    ∙ ap (λ (d : Compared). (setting_in d).after c.row-item.result pair) c.loop-row.invariant.trial
    in
    record {
      runs = subst (λ (p : Pair). RunsOn k c.args.rows.now (drop (c.loop-row.row-index + 1) c.args.rows.now) p) (sym led)
          (runs_next k c.args.rows.now c.loop-row.row-index c.row-item.result pair c.loop-row-test.true c.row-item.is c.loop-row.invariant.runs);
      trial = still c.args.trial.now c.loop-row.trial c.step.new.self c.loop-row.invariant.trial (put _ c.loop-row.trial c.step.new.self c.step.ensures);
    }
