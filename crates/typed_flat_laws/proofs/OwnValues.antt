-- Typed expressions name cells of their owner, and call FUNCTIONs with all their inputs.
use Rattle.std.proofs.Common.{ℕ, ◌+◌, ◌<◌, ◌≤◌, Bool, ◌||◌, length, ap, ◌∙◌, arith}
use Rattle.plc_types.specs.declared.elementary.Elementary.{Elementary}
use Rattle.program_tree.specs.Tree.{Expression, number, cell, unary, chain, call_standard, call_function, Operands, no_operands, operand, Expressions, no_expressions, expression}
use Rattle.program_tree.specs.OperandTypes.{arity, first_operand_kind, first_kind}
use Rattle.meaning.specs.Values.{result_type}
use Rattle.meaning.specs.Frames.{FrameData, scratch_at}
use Rattle.flat_form.specs.WellTyped.{IsOwnPlace, IsTypedValue, AreTypedOperands, AreTypedValues, AreTypedInputs}
use Rattle.typed_programs.specs.Expressions.{IsOf, Join, AreOf, AreInputs}
use Rattle.typed_flat_laws.proofs.OwnCells.{OwnCells, pous_for, stays-same}

module _ (w : OwnCells) where
  -- a named cell is its owner's
  pub own-place : (n : ℕ) → w.scope.first ≤ n → n < length w.scope.places → IsOwnPlace w.ranges (w.base + n)
  own-place n first low = let some = w.behind_fault in let room = (w.owns n first low).room in (omega arith, omega arith)

  -- a POU before this one may be called with all inputs that it has cells for
  abbrev pub EachMayBeCalled : (ℕ → ℕ → Type 0) → Type 0
  EachMayBeCalled MayCall = (f inputs : ℕ) → f < w.scope.pous → 2 + inputs ≤ length (w.frames f).types → MayCall f inputs

  module _ (MayCall : ℕ → ℕ → Type 0) (each_call : EachMayBeCalled MayCall) where
    mutual
      pub value-typed : (t : Elementary) (e : Expression) → IsOf (pous_for w) w.scope t e → IsTypedValue w.frames MayCall w.ranges w.base e
      value-typed t (number v) h = tt
      value-typed t (cell place) h = own-place place h.0.0 h.0.1
      value-typed t (unary o q e) h = value-typed q e h.1
      value-typed t (chain e os) h = (value-typed (first_kind t os) e h.0, operands-typed (first_kind t os) t os h.1)
      value-typed t (call_standard f q es) h = values-typed (first_operand_kind f q) q es h.2
      value-typed t (call_function f es) h = (each_call f (arity es) h.0 h.1, inputs-typed (w.frames f) 2 es h.3)

      operands-typed : (before t : Elementary) (os : Operands) → Join (pous_for w) w.scope before t os → AreTypedOperands w.frames MayCall w.ranges w.base os
      operands-typed before t no_operands h = tt
      operands-typed before t (operand o q e os) h = (value-typed q e h.2, operands-typed (result_type o q) t os h.3)

      values-typed : (first others : Elementary) (es : Expressions) → AreOf (pous_for w) w.scope first others es → AreTypedValues w.frames MayCall w.ranges w.base es
      values-typed first others no_expressions h = tt
      values-typed first others (expression e es) h = (value-typed first e h.0, values-typed others others es h.1)

      inputs-typed : (frame : FrameData) (n : ℕ) (es : Expressions) → AreInputs (pous_for w) w.scope frame n es → AreTypedInputs w.frames MayCall w.ranges w.base frame n es
      inputs-typed frame n no_expressions h = tt
      inputs-typed frame n (expression e es) h =
          let p = scratch_at frame n in
          (value-typed p.kind e h.0, ap (λ (x : Bool). p.is_subrange || x) (stays-same w p.kind e p.range h.0) ∙ h.1, inputs-typed frame (n + 1) es h.2)
