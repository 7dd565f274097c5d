-- What judging a chart tells, from what it tells of the parts.
use Rattle.std.proofs.Common.{◌≡◌, List, [], ◌∷◌, sym, ap, ◌∙◌}
use Rattle.source_tree.specs.Syntax.{PartData}
use Rattle.rules.specs.declared.outcome.Outcome.{Outcome}
use Rattle.typing.specs.Typing.{Scope}
use Rattle.rules.specs.Judgements.{ok}
use Rattle.typing.specs.JudgedCharts.{judged_part, judged_parts}
use Rattle.rules.specs.Outcomes.{outcome_of, both}
use Rattle.typing.specs.ChartOutcomes.{parts_outcome}
use Rattle.rules.proofs.Outcomes.{outcome_and, both_ok, ok_both}
use Rattle.typing_laws.proofs.Judging.{both-assoc}

parts_outcome-is : (scope : Scope) (o : Outcome) (ps : List PartData) → parts_outcome scope o ps ≡ both o (outcome_of (judged_parts scope ps))
parts_outcome-is scope o [] = sym (both_ok o)
parts_outcome-is scope o (p ∷ ps) =
    let j = judged_part scope p in
    let k = judged_parts scope ps in
    parts_outcome-is scope (both o (outcome_of j)) ps ∙ both-assoc o (outcome_of j) (outcome_of k) ∙ ap (both o) (outcome_and j k)

pub parts_judged : (scope : Scope) (ps : List PartData) → parts_outcome scope (outcome_of ok) ps ≡ outcome_of (judged_parts scope ps)
parts_judged scope ps = parts_outcome-is scope (outcome_of ok) ps ∙ ok_both (outcome_of (judged_parts scope ps))
