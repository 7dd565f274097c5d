use Rattle.std.proofs.Common.{◌≡◌, [], ap, sym, ◌∙◌}
use Rattle.source_tree.specs.Syntax.{StepsData, one_step}
use Rattle.source_tree.specs.SyntaxView.{name_view, steps_view}
use Rattle.naming.specs.Broken.{in_listed, in_steps}
use Rattle.pou_scope.specs.NamesView.{file_in, pou_in}
use Rattle.rules.specs.Outcomes.{outcome_of, both}
use Rattle.naming.proofs.ChartLemmas.{one_listed}
use Rattle.name_uses.proofs.step_lists.walk_steps.Goals as goal

pub returns-in-One : goal.returns-in-One
returns-in-One c =
    let f = file_in c.args.scope.now.names in
    let p = pou_in c.args.scope.now.names in
    let n = name_view c.in-One.name in
    let shape : steps_view c.args.steps.now ≡ one_step n = ap steps_view c.in-One.is in
    c.and.ensures ∙ ap (both c.args.outcome.now) c.judged_listed.ensures ∙ one_listed c.args.outcome.now (in_listed f p [] n)
    ∙ ap (λ (s : StepsData). both c.args.outcome.now (outcome_of (in_steps f p s))) (sym shape)
