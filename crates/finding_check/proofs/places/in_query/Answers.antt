use Rattle.std.proofs.Common.{◌≡◌, ◌∙◌, ap, sym, subst}
use Rattle.finding_lines.specs.declared.line.Line.{Line}
use Rattle.finding_lines.specs.declared.line.Line.TheVariants as lines
use Rattle.pair_trial.specs.Trials.{setting_in}
use Rattle.judgement.specs.Places.{in_query}
use Rattle.judgement.specs.Tests.{in_query_next, IsTold}
use Rattle.finding_check.specs.Stages.{moved_of}
use Rattle.finding_check.proofs.HintLemmas.{IfOk-map}
use Rattle.finding_check.proofs.places.in_query.Goals as goal

pub returns-in-Derived : goal.returns-in-Derived
returns-in-Derived c =
    let s = setting_in c.args.trial.now in
    let e : lines.Derived c.as_slice.result.now c.as_slice-in-Derived.result.now ≡ c.args.line.now =
    ap (λ l. lines.Derived l c.as_slice-in-Derived.result.now) c.as_slice.ensures.same ∙ ap (λ h. lines.Derived c.in-Derived.literals h) c.as_slice-in-Derived.ensures.same ∙ sym c.in-Derived.is
    in
    IfOk-map c.spent_step.result
    (λ moved h pair. (
      h.0,
      subst (λ (l : Line). IsTold s (in_query c.args.reach c.args.asked c.args.checker c.args.left) l h.0) e h.1,
      subst (λ (l : Line). moved_of moved pair ≡ in_query_next s c.args.reach c.args.asked c.args.checker c.args.left h.0 l) e (h.2 pair),
    ))
    c.spent_step.ensures

pub returns-in-End : goal.returns-in-End
returns-in-End c pair =
    let s = setting_in c.args.trial.now in
    let h = c.end_query.ensures pair c.args.checker in (
      h.0,
      subst (λ (l : Line). IsTold s (in_query c.args.reach c.args.asked c.args.checker c.args.left) l h.0) (sym c.in-End.is) h.1,
      subst (λ (l : Line). moved_of c.end_query.result pair ≡ in_query_next s c.args.reach c.args.asked c.args.checker c.args.left h.0 l) (sym c.in-End.is) h.2,
    )
