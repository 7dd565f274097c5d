use Rattle.std.proofs.Common.{sym, subst}
use Rattle.pair_trial.specs.Trials.{setting_in}
use Rattle.finding_check.specs.StepMoves.{MovesBy}
use Rattle.finding_check.specs.Stages.{place_of, moved_of}
use Rattle.finding_check.specs.declared.stage.Stage.{Stage}
use Rattle.finding_check.proofs.HintLemmas.{IfOk-map}
use Rattle.finding_check.proofs.places.place_line.Goals as goal

pub returns-in-End-clause-moved : goal.returns-in-End-clause-moved
returns-in-End-clause-moved g c =
    let s = setting_in c.args.trial.now in
    let pair = c.args.trial.now.pair in
    subst (λ (stage : Stage). MovesBy s (g.Q.Queries.formula c.args.queries.now) (place_of stage pair) c.args.line.now (moved_of c.at_end.result pair)) (sym c.in-End.is) (c.at_end.ensures s pair)

pub returns-in-InQuery-clause-moved : goal.returns-in-InQuery-clause-moved
returns-in-InQuery-clause-moved g c =
    let s = setting_in c.args.trial.now in
    let pair = c.args.trial.now.pair in
    IfOk-map c.in_query.result
    (λ moved h. subst (λ (stage : Stage). MovesBy s (g.Q.Queries.formula c.args.queries.now) (place_of stage pair) c.args.line.now (moved_of moved pair)) (sym c.in-InQuery.is) (h pair))
    c.in_query.ensures

pub returns-in-InWalk-clause-moved : goal.returns-in-InWalk-clause-moved
returns-in-InWalk-clause-moved g c =
    let s = setting_in c.args.trial.now in
    let pair = c.args.trial.now.pair in
    IfOk-map c.in_walk.result
    (λ moved h. subst (λ (stage : Stage). MovesBy s (g.Q.Queries.formula c.args.queries.now) (place_of stage pair) c.args.line.now (moved_of moved c.in_walk.new.trial.pair)) (sym c.in-InWalk.is) h)
    c.in_walk.ensures.moved
