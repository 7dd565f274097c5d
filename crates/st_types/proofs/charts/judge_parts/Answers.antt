use Rattle.std.proofs.Common.{◌≡◌, List, [], drop, ap, sym, ◌∙◌, arith}
use Rattle.std.proofs.lemmas.Grind.{common_steps}
use Rattle.source_tree.specs.declared.syntax.ChartPart.{ChartPart}
use Rattle.source_tree.specs.SyntaxView.{parts_view}
use Rattle.typing.specs.ChartOutcomes.{parts_outcome}
use Rattle.typing_laws.proofs.ChartLemmas.{parts_judged}
use Rattle.st_types.proofs.charts.judge_parts.Goals as goal

pub returns : goal.returns
returns g c =
    let scope = g.S.Scope.means c.args.scope.now in
    let parts = c.args.parts.now in
    let none : drop c.loop-part.part-index parts ≡ [] = grind (arith, common_steps) in
    ap (λ (rest : List ChartPart). parts_outcome scope c.loop-part.judged (parts_view rest)) (sym none) ∙ c.loop-part.invariant ∙ parts_judged scope (parts_view parts)
