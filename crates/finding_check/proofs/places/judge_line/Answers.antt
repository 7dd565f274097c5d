use Rattle.std.proofs.Common.{◌∙◌, sym}
use Rattle.pair_trial.specs.Trials.{setting_in}
use Rattle.finding_check.specs.Stages.{place_of, moved_of}
use Rattle.finding_check.proofs.HintLemmas.{IfOk-map}
use Rattle.finding_check.proofs.VersionLemmas.{moves_by, moves_not}
use Rattle.finding_check.proofs.places.judge_line.Goals as goal

pub returns-then-has_form-clause-moved : goal.returns-then-has_form-clause-moved
returns-then-has_form-clause-moved g c =
    let s = setting_in c.args.trial.now in
    let f = g.Q.Queries.formula c.args.queries.now in
    let pair = c.args.trial.now.pair in
    IfOk-map c.place_line.result
    (λ step moves. moves_by s f (place_of c.args.stage pair) c.args.line.now (moved_of step c.place_line.new.trial.pair) (sym (c.has_form.ensures s f pair) ∙ c.if-has_form.true) moves)
    c.place_line.ensures.moved

pub returns-else-has_form-clause-moved : goal.returns-else-has_form-clause-moved
returns-else-has_form-clause-moved g c =
    let s = setting_in c.args.trial.now in
    let f = g.Q.Queries.formula c.args.queries.now in
    let pair = c.args.trial.now.pair in
    moves_not s f (place_of c.args.stage pair) c.args.line.now (sym (c.has_form.ensures s f pair) ∙ c.if-has_form.false)
