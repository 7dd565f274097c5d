-- The data that owners, frames and scopes stand for.
use Rattle.std.specs.Prelude.{◌≤◌, ◌<◌, ◌^◌, ◌+◌, ℕ, List, length, slice_index_or, All}
use Rattle.program_tree.specs.View.{all_called_view}
use Rattle.program_tree.specs.declared.typed.Frame.{Frame}
use Rattle.program_tree.specs.declared.typed.StepCells.{StepCells}
use Rattle.meaning.specs.Frames.{FrameData}
use Rattle.flat_form.specs.Owners.{OwnerData, program_owner, call_owner}
use Rattle.flat_form.specs.Bodies.{Bodies}
use Rattle.flat_form.specs.Pous.{bodies_of}
use Rattle.flat_form.specs.Idle.{AreIdleBelow}
use Rattle.flat_form.specs.FlatCharts.{no_step, entered_flag}
use Rattle.flat_charts.specs.declared.scope.Owner.{Owner}
use Rattle.flat_charts.specs.declared.scope.Owner.TheVariants.{Program, Call}
use Rattle.flat_charts.specs.declared.scope.FlatScope.{FlatScope}

abbrev pub frame_view : Frame → FrameData
frame_view f = record { types = f.types.items; ranges = f.ranges.items; start = f.start.items }

abbrev pub owner_view : Owner → OwnerData
owner_view Program = program_owner
owner_view (Call answer places) = call_owner answer places.now

-- those that may be run and called
abbrev pub bodies_here : FlatScope → Bodies
bodies_here scope = bodies_of (all_called_view scope.called.now) scope.below

-- The program has no more cells than a list can have. The POUs that may be run and called are there, and which of them do nothing is told.
pub record IsKnown (scope : FlatScope) : Type 0 where
  pub few : scope.cells < 2 ^ 63
  pub called : scope.below ≤ length scope.called.now
  pub idle : AreIdleBelow scope.idle.now (all_called_view scope.called.now) scope.below

-- A place of a POU has a place of 64 bits among its owner's cells, where those of the POU begin at a base.
abbrev pub HasPlace : ℕ → ℕ → Type 0
HasPlace base place = base + place < 2 ^ 64

-- So have the cells of each step, and those of a step that is none of the chart's.
abbrev pub StepsHavePlaces : ℕ → List StepCells → Type 0
StepsHavePlaces base steps = (step : ℕ) → HasPlace base (slice_index_or steps step no_step).active × HasPlace base (slice_index_or steps step no_step).before

-- So have the two flags of each of some steps, where those of the first step begin at a place.
abbrev pub FlagsHavePlaces : ℕ → List ℕ → Type 0
FlagsHavePlaces flags list = All (λ step. entered_flag flags step < 2 ^ 64) list
