-- The typed statement that a chart stands for.
use Rattle.std.specs.Prelude.{ℕ, ◌+◌, List, map, Option, Some, None}
use Rattle.program_tree.specs.declared.typed.StepCells.{StepCells}
use Rattle.source_tree.specs.Syntax.{ChartStepData, ChartTransitionData, ChartActionData, PartData}
use Rattle.program_tree.specs.Tree.{TransitionData, Statement, chart}
use Rattle.program_tree.specs.View.{ActionData, actions_of as actions_from}
use Rattle.naming.specs.Broken.{alone}
use Rattle.sfc_shape.specs.Shapes.{steps_of, transitions_of, actions_of, step_numbers, associations_of, in_firing_order}
use Rattle.typing.specs.declared.scope.Place.{Place}
use Rattle.typing.specs.declared.scope.Place.TheVariants as places
use Rattle.typing.specs.declared.scope.Meaning.{Meaning}
use Rattle.typing.specs.Typing.{Scope, by_path}
use Rattle.typing.specs.Typed.{typed}
use Rattle.typing.specs.TypedStatements.{cell_of, typed_list}

-- The name of a step stands for the first of its cells.
abbrev pub step_cells : Scope → ChartStepData → StepCells
step_cells scope s = let c = cell_of (scope.means (by_path (alone s.name))) in record { active = c; before = c + 1 }

-- the latch of a stored action is the cell that its name stands for
abbrev pub latch_place : Place → Option ℕ
latch_place (places.Cell c) = Some c
latch_place (places.Value v) = None

abbrev pub latch_of : Option Meaning → Option ℕ
latch_of None = None
latch_of (Some m) = latch_place m.place

abbrev pub typed_action : Scope → List PartData → ChartActionData → ActionData
typed_action scope ps a = (latch_of (scope.means (by_path (alone a.name))), associations_of ps a.name.text, typed_list scope a.body)

abbrev pub typed_transition : Scope → List PartData → ChartTransitionData → TransitionData
typed_transition scope ps t = record { from = step_numbers ps t.from; to = step_numbers ps t.to; condition = typed scope None t.condition }

-- its steps and actions in the order of the text, and its transitions in the order in which they fire
abbrev pub typed_chart : Scope → List PartData → Statement
typed_chart scope ps =
    chart (map (step_cells scope) (steps_of ps)) (actions_from (map (typed_action scope ps) (actions_of ps))) (map (typed_transition scope ps) (in_firing_order (transitions_of ps)))
