-- Expressions of a POU, whose cells begin at a base among an owner's: the statements that their calls of FUNCTIONs become, which run
-- before what asks for the value, and the expression that is left, where the result's scratch cell stands for each call. Calls are
-- made from left to right, and those in a call's inputs before it.
use Rattle.std.specs.Prelude.{ℕ, ◌+◌, List, [], ◌∷◌, ◌++◌, length}
use Rattle.program_tree.specs.Tree.{Expression, number, cell, unary, chain, call_standard, call_function, Operands, no_operands, operand, Expressions, no_expressions, expression}
use Rattle.program_tree.specs.declared.scratch.Scratch.{Scratch}
use Rattle.program_tree.specs.OperandTypes.{arity}
use Rattle.meaning.specs.Frames.{FrameData, scratch_at, initial_at}
use Rattle.flat_core.specs.FlatTree.{FlatStatement, set}
use Rattle.flat_form.specs.Frames.{input_start, others_behind, other_scratch, other_starts, places_of}
use Rattle.flat_form.specs.Owners.{OwnerData}
use Rattle.flat_form.specs.Bodies.{Bodies}

-- Behind so many inputs a call has a scratch cell for each other variable and for its answer, and those of its body. It starts them, and
-- runs its body.
abbrev pub rest_scratch : Bodies → FrameData → ℕ → ℕ → List Scratch
rest_scratch bodies frame f inputs = other_scratch frame (2 + inputs) (others_behind frame inputs) ++ scratch_at frame 1 ∷ bodies.call_scratch f

abbrev pub rest_list : Bodies → FrameData → ℕ → ℕ → List ℕ → ℕ → List FlatStatement
rest_list bodies frame f inputs places k =
    other_starts frame (2 + inputs) (others_behind frame inputs) k
    ++ set (k + others_behind frame inputs) (number (initial_at frame 1))
    ∷ bodies.call_list f (k + others_behind frame inputs) (places_of places k (others_behind frame inputs)) (k + others_behind frame inputs + 1)

-- the scratch cells of an expression's calls; an input's own stands behind those of its value
abbrev mutual
  pub scratch_in : Bodies → Expression → List Scratch
  scratch_in bodies (number v) = []
  scratch_in bodies (cell place) = []
  scratch_in bodies (unary o t e) = scratch_in bodies e
  scratch_in bodies (chain e os) = scratch_in bodies e ++ operand_scratch bodies os
  scratch_in bodies (call_standard f t es) = all_scratch bodies es
  scratch_in bodies (call_function f es) = input_scratch bodies (bodies.frame f) 2 es ++ rest_scratch bodies (bodies.frame f) f (arity es)

  pub operand_scratch : Bodies → Operands → List Scratch
  operand_scratch bodies no_operands = []
  operand_scratch bodies (operand o t e os) = scratch_in bodies e ++ operand_scratch bodies os

  pub all_scratch : Bodies → Expressions → List Scratch
  all_scratch bodies no_expressions = []
  all_scratch bodies (expression e es) = scratch_in bodies e ++ all_scratch bodies es

  -- inputs, whose cells of the frame begin at a place
  pub input_scratch : Bodies → FrameData → ℕ → Expressions → List Scratch
  input_scratch bodies frame place no_expressions = []
  input_scratch bodies frame place (expression e es) = scratch_in bodies e ++ scratch_at frame place ∷ input_scratch bodies frame (place + 1) es

-- the places of the inputs' scratch cells, where those of the first input's value begin at k
abbrev pub input_places : Bodies → Expressions → ℕ → List ℕ
input_places bodies no_expressions k = []
input_places bodies (expression e es) k = (k + length (scratch_in bodies e)) ∷ input_places bodies es (k + length (scratch_in bodies e) + 1)

-- the expression that is left, where the scratch cells of its calls are numbered from k on
abbrev mutual
  pub moved : Bodies → OwnerData → ℕ → Expression → ℕ → Expression
  moved bodies owner base (number v) k = number v
  moved bodies owner base (cell place) k = cell (owner (base + place))
  moved bodies owner base (unary o t e) k = unary o t (moved bodies owner base e k)
  moved bodies owner base (chain e os) k = chain (moved bodies owner base e k) (moved_operands bodies owner base os (k + length (scratch_in bodies e)))
  moved bodies owner base (call_standard f t es) k = call_standard f t (all_moved bodies owner base es k)
  moved bodies owner base (call_function f es) k = cell (k + length (input_scratch bodies (bodies.frame f) 2 es) + others_behind (bodies.frame f) (arity es))

  pub moved_operands : Bodies → OwnerData → ℕ → Operands → ℕ → Operands
  moved_operands bodies owner base no_operands k = no_operands
  moved_operands bodies owner base (operand o t e os) k =
      operand o t (moved bodies owner base e k) (moved_operands bodies owner base os (k + length (scratch_in bodies e)))

  pub all_moved : Bodies → OwnerData → ℕ → Expressions → ℕ → Expressions
  all_moved bodies owner base no_expressions k = no_expressions
  all_moved bodies owner base (expression e es) k = expression (moved bodies owner base e k) (all_moved bodies owner base es (k + length (scratch_in bodies e)))

-- the statements that its calls become
abbrev mutual
  pub before : Bodies → OwnerData → ℕ → Expression → ℕ → List FlatStatement
  before bodies owner base (number v) k = []
  before bodies owner base (cell place) k = []
  before bodies owner base (unary o t e) k = before bodies owner base e k
  before bodies owner base (chain e os) k = before bodies owner base e k ++ operands_before bodies owner base os (k + length (scratch_in bodies e))
  before bodies owner base (call_standard f t es) k = all_before bodies owner base es k
  before bodies owner base (call_function f es) k =
      inputs_before bodies owner base (bodies.frame f) 2 es k
      ++ rest_list bodies (bodies.frame f) f (arity es) (input_places bodies es k) (k + length (input_scratch bodies (bodies.frame f) 2 es))

  pub operands_before : Bodies → OwnerData → ℕ → Operands → ℕ → List FlatStatement
  operands_before bodies owner base no_operands k = []
  operands_before bodies owner base (operand o t e os) k = before bodies owner base e k ++ operands_before bodies owner base os (k + length (scratch_in bodies e))

  pub all_before : Bodies → OwnerData → ℕ → Expressions → ℕ → List FlatStatement
  all_before bodies owner base no_expressions k = []
  all_before bodies owner base (expression e es) k = before bodies owner base e k ++ all_before bodies owner base es (k + length (scratch_in bodies e))

  -- each input's scratch cell is set to its value, and one of a subrange is started before
  pub inputs_before : Bodies → OwnerData → ℕ → FrameData → ℕ → Expressions → ℕ → List FlatStatement
  inputs_before bodies owner base frame place no_expressions k = []
  inputs_before bodies owner base frame place (expression e es) k =
      before bodies owner base e k
      ++ (input_start frame place (k + length (scratch_in bodies e))
      ++ set (k + length (scratch_in bodies e)) (moved bodies owner base e k)
      ∷ inputs_before bodies owner base frame (place + 1) es (k + length (scratch_in bodies e) + 1))
