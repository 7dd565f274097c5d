-- What a body is typed over.
use Rattle.std.specs.Prelude.{◌≤◌, ◌<◌, ℕ, List, length}
use Rattle.program_tree.specs.declared.scratch.Scratch.{Scratch}
use Rattle.meaning.specs.Frames.{FrameData}

-- The POUs that a program may run and call, by their numbers: the frame of each FUNCTION, and what each cell of an instance of a
-- FUNCTION_BLOCK takes.
pub record Pous : Type 0 where
  pub frames : ℕ → FrameData
  pub instances : ℕ → List Scratch

-- The statements of a body name places from a first one on, as FAULT has no name. What each place takes; from which place on no statement
-- sets any, those being the chart's; and how many POUs stand before it, which it may run and call.
pub record BodyScope : Type 0 where
  pub first : ℕ
  pub places : List Scratch
  pub settable : ℕ
  pub pous : ℕ

-- a place that has a name
abbrev pub IsNamed : BodyScope → ℕ → Type 0
IsNamed b place = (b.first ≤ place) × (place < length b.places)

-- one that statements may set
abbrev pub IsSettable : BodyScope → ℕ → Type 0
IsSettable b place = (b.first ≤ place) × (place < b.settable)
