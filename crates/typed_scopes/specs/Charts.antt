-- What a chart owes beside its parts: its cells are its own, its transitions and actions name its steps, and a stored action is one that some step
-- associates.
use Rattle.std.specs.Prelude.{ℕ, List, length, map, All}
use Rattle.source_tree.specs.Syntax.{PartData, ChartTransitionData, ChartActionData}
use Rattle.program_tree.specs.View.{actions_of as actions_from}
use Rattle.program_tree.specs.ChartPlaces.{chart_places, AreRisingFrom, AreSteps, NameSteps, IsAssociated}
use Rattle.naming.specs.Broken.{alone}
use Rattle.sfc_shape.specs.Shapes.{steps_of, transitions_of, actions_of, step_numbers, associations_of}
use Rattle.typing.specs.Typing.{Scope, by_path}
use Rattle.typing.specs.TypedCharts.{step_cells, latch_of, typed_action}
use Rattle.typed_programs.specs.Scopes.{BodyScope}
use Rattle.typed_programs.specs.Statements.{IsFlagOf}

abbrev pub NamesSteps : List PartData → ChartTransitionData → Type 0
NamesSteps ps t = AreSteps (length (steps_of ps)) (step_numbers ps t.from) × AreSteps (length (steps_of ps)) (step_numbers ps t.to)

abbrev pub IsNamedBySteps : Scope → List PartData → ChartActionData → Type 0
IsNamedBySteps scope ps a =
    IsAssociated (latch_of (scope.means (by_path (alone a.name)))) (associations_of ps a.name.text) × NameSteps (length (steps_of ps)) (associations_of ps a.name.text)

-- the cells of the chart of these parts
abbrev pub cells_of_chart : Scope → List PartData → List ℕ
cells_of_chart scope ps = chart_places (map (step_cells scope) (steps_of ps)) (actions_from (map (typed_action scope ps) (actions_of ps)))

pub record ChartFits (b : BodyScope) (scope : Scope) (ps : List PartData) : Type 0 where
  pub flags : All (IsFlagOf b) (cells_of_chart scope ps)
  pub rising : AreRisingFrom b.settable (cells_of_chart scope ps)
  pub transitions : All (NamesSteps ps) (transitions_of ps)
  pub actions : All (IsNamedBySteps scope ps) (actions_of ps)
