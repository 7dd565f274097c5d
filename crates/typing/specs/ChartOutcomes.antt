-- What judging the parts of a chart tells, behind what was judged so far.
use Rattle.std.specs.Prelude.{List, [], ◌∷◌}
use Rattle.source_tree.specs.Syntax.{PartData}
use Rattle.rules.specs.declared.outcome.Outcome.{Outcome}
use Rattle.typing.specs.Typing.{Scope}
use Rattle.typing.specs.JudgedCharts.{judged_part}
use Rattle.rules.specs.Outcomes.{outcome_of, both}

abbrev pub parts_outcome : Scope → Outcome → List PartData → Outcome
parts_outcome scope o [] = o
parts_outcome scope o (p ∷ ps) = parts_outcome scope (both o (outcome_of (judged_part scope p))) ps
