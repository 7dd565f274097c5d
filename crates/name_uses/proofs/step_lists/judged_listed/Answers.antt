use Rattle.std.proofs.Common.{ap, ◌∙◌}
use Rattle.source_tree.specs.SyntaxView.{name_view}
use Rattle.naming.specs.Broken.{step_by}
use Rattle.pou_scope.specs.NamesView.{file_in, pou_in}
use Rattle.rules.specs.Outcomes.{outcome_of}
use Rattle.naming.specs.Scopes.{seen_named}
use Rattle.naming.proofs.ChartLemmas.{listed_twice, listed_new, listed_broken}
use Rattle.name_uses.proofs.step_lists.judged_listed.Goals.{else-known-via-then-known+else-is_met, else-known-via-else-known}
use Rattle.name_uses.proofs.step_lists.judged_listed.Goals as goal

pub returns-then-is_met : goal.returns-then-is_met
returns-then-is_met c =
    let n = name_view c.args.name.now in
    let j = step_by (seen_named (file_in c.args.scope.now.names) (pou_in c.args.scope.now.names) n.text) n in
    let is = c.step_by-known.ensures ∙ ap (λ s. outcome_of (step_by s n)) c.part.ensures in
    c.step_twice.ensures ∙ listed_twice j c.step_by-known.result is n c.args.is_met c.if-known.true c.if-is_met.true

pub returns : goal.returns
returns c =
    let n = name_view c.args.name.now in
    let j = step_by (seen_named (file_in c.args.scope.now.names) (pou_in c.args.scope.now.names) n.text) n in
    let is = c.step_by-known.ensures ∙ ap (λ s. outcome_of (step_by s n)) c.part.ensures in
    elim c.else-known.branch [
      | else-known-via-then-known+else-is_met w ↦ listed_new j c.step_by-known.result is n c.args.is_met w.if-known.true w.if-is_met.false
      | else-known-via-else-known w ↦ listed_broken j c.step_by-known.result is n c.args.is_met w.if-known.false
    ]
