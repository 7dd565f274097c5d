use Rattle.std.proofs.Common.{◌≡◌, drop}
use Rattle.source_tree.specs.SyntaxView.{parts_view}
use Rattle.rules.specs.Judgements.{ok}
use Rattle.rules.specs.Outcomes.{outcome_of}
use Rattle.typing.specs.ChartOutcomes.{parts_outcome}
use Rattle.st_types.proofs.charts.judge_parts.Given as goal

abbrev pub invariant-loop-part : goal.invariant-loop-part
invariant-loop-part g l =
    parts_outcome (g.S.Scope.means l.scope) l.judged (parts_view (drop l.part-index l.parts)) ≡ parts_outcome (g.S.Scope.means l.scope) (outcome_of ok) (parts_view l.parts)
