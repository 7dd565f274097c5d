-- What the bodies of POUs become.
use Rattle.std.specs.Prelude.{ℕ, List}
use Rattle.program_tree.specs.declared.scratch.Scratch.{Scratch}
use Rattle.meaning.specs.Frames.{FrameData}
use Rattle.flat_core.specs.FlatTree.{FlatStatement}
use Rattle.flat_form.specs.Owners.{OwnerData}

-- By the POU's number: the frame of a FUNCTION; the scratch cells of a run of a FUNCTION_BLOCK, and its flat list, by the owner of the
-- instance, the base where its cells begin, and the place from which scratch cells are numbered; the scratch cells of a FUNCTION's body, and its flat list, by the place of what it answers, those of the call's inputs and
-- other variables, and the place from which further scratch cells are numbered.
pub record Bodies : Type 0 where
  pub frame : ℕ → FrameData
  pub run_scratch : ℕ → List Scratch
  pub run_list : OwnerData → ℕ → ℕ → ℕ → List FlatStatement
  pub call_scratch : ℕ → List Scratch
  pub call_list : ℕ → ℕ → List ℕ → ℕ → List FlatStatement
