use Rattle.std.proofs.Common.{◌≡◌, ◌∙◌, ap, sym, subst}
use Rattle.finding_lines.specs.declared.line.Line.{Line}
use Rattle.finding_lines.specs.declared.line.Line.TheVariants as lines
use Rattle.pair_trial.specs.Trials.{setting_in}
use Rattle.judgement.specs.Places.{in_walk}
use Rattle.judgement.specs.Tests.{in_walk_next, IsTold}
use Rattle.finding_check.specs.Stages.{moved_of}
use Rattle.finding_check.proofs.HintLemmas.{IfOk-map}
use Rattle.finding_check.proofs.WalkLemmas.{behind_log}
use Rattle.finding_check.proofs.places.in_walk.Goals as goal

pub returns-in-Derived-clause-moved : goal.returns-in-Derived-clause-moved
returns-in-Derived-clause-moved g c =
    let s = setting_in c.args.trial.now in
    let pair = c.args.trial.now.pair in
    let f = g.Q.Queries.formula c.args.queries.now in
    let e : lines.Derived c.as_slice.result.now c.as_slice-in-Derived.result.now ≡ c.args.line.now =
    ap (λ l. lines.Derived l c.as_slice-in-Derived.result.now) c.as_slice.ensures.same ∙ ap (λ h. lines.Derived c.in-Derived.literals h) c.as_slice-in-Derived.ensures.same ∙ sym c.in-Derived.is
    in
    IfOk-map c.spent_step.result
    (λ moved h. (
      h.0,
      subst (λ (l : Line). IsTold s (in_walk c.args.rows c.args.checker c.args.left) l h.0) e h.1,
      subst (λ (l : Line). moved_of moved pair ≡ in_walk_next s f c.args.rows c.args.checker c.args.left h.0 l) e (h.2 pair),
    ))
    c.spent_step.ensures

pub returns-in_default : goal.returns-in_default
returns-in_default g c = record {
  moved = IfOk-map c.behind_walk.result
      (λ step e. behind_log (setting_in c.args.trial.now) (g.Q.Queries.formula c.args.queries.now) c.args.rows c.args.checker c.args.left c.args.line.now (moved_of step c.behind_walk.new.trial.pair)
      c.in_default.not-Derived c.in_default.not-Deleted e) c.behind_walk.ensures.moved;
  kept = c.behind_walk.ensures.kept;
}
