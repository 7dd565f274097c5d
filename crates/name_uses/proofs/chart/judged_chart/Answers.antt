use Rattle.std.proofs.Common.{ap, sym, ◌∙◌}
use Rattle.rules.specs.declared.rule.Rule.TheVariants.{NotOneInitialStep}
use Rattle.source_tree.specs.SyntaxView.{parts_view}
use Rattle.rules.specs.Judgements.{breaks}
use Rattle.pou_scope.specs.NamesView.{file_in, pou_in}
use Rattle.rules.specs.Outcomes.{outcome_of}
use Rattle.naming.proofs.ChartLemmas.{chart_wrong, chart_right, chart_broken}
use Rattle.name_uses.proofs.chart.judged_chart.Goals.{else-judged-via-then-judged+else-initial_count-ne1, else-judged-via-else-judged}
use Rattle.name_uses.proofs.chart.judged_chart.Goals as goal

pub returns-then-initial_count-ne1-clause-judged : goal.returns-then-initial_count-ne1-clause-judged
returns-then-initial_count-ne1-clause-judged c =
    let f = file_in c.args.scope.now.names in
    let p = pou_in c.args.scope.now.names in
    let qs = parts_view c.args.parts.now in
    c.breaks.ensures ∙ ap (λ at. outcome_of (breaks NotOneInitialStep at)) c.place_of_chart.ensures
    ∙ chart_wrong f p qs c.in_ok-judged.judged c.in_ok-judged.ensures.judged c.if-judged.true (λ one. c.if-initial_count-ne1.true (c.initial_count.ensures ∙ one))

pub returns-clause-judged : goal.returns-clause-judged
returns-clause-judged c =
    let f = file_in c.args.scope.now.names in
    let p = pou_in c.args.scope.now.names in
    let qs = parts_view c.args.parts.now in
    elim c.else-judged.branch [
      | else-judged-via-then-judged+else-initial_count-ne1 w ↦ chart_right f p qs c.in_ok-judged.judged c.in_ok-judged.ensures.judged w.if-judged.true (sym w.initial_count.ensures ∙ w.if-initial_count-ne1.false)
      | else-judged-via-else-judged w ↦ chart_broken f p qs c.in_ok-judged.judged c.in_ok-judged.ensures.judged w.if-judged.false
    ]
