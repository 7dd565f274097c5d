-- The types of expressions: operands are of their operator's type, numbers lie in the range of the type that is asked for, a conversion's operand is
-- of its source type, SEL's first operand is a BOOL, and a FUNCTION that is called stands before its caller and gets all its inputs.
use Rattle.std.specs.Prelude.{◌≡◌, ◌≤◌, ◌<◌, ◌+◌, ℕ, Bool, true, ◌&&◌, ◌||◌, List, [], ◌∷◌, length}
use Rattle.plc_types.specs.declared.elementary.Elementary.{Elementary}
use Rattle.plc_types.specs.declared.range.Range.{Range}
use Rattle.plc_types.specs.Types.{range_of, in_range}
use Rattle.program_tree.specs.Tree.{Expression, number, cell, unary, chain, call_standard, call_function, Operands, no_operands, operand, Expressions, no_expressions, expression}
use Rattle.program_tree.specs.declared.scratch.Scratch.{Scratch}
use Rattle.program_tree.specs.OperandTypes.{arity, is_for, first_operand_kind, first_kind, is_function_for}
use Rattle.program_tree.specs.Places.{place_at}
use Rattle.meaning.specs.Values.{result_type}
use Rattle.meaning.specs.Frames.{FrameData, scratch_at}
use Rattle.meaning.specs.StaysIn.{covers, last_stays, chosen_stay}
use Rattle.typed_programs.specs.Scopes.{Pous, BodyScope, IsNamed}

-- whether the types of an expression and the ranges of its places say that its values lie in a range
module _ (pous : Pous) (places : List Scratch) where
  abbrev mutual
    pub stays_in : Expression → Range → Bool
    stays_in (number v) r = in_range v r
    stays_in (cell place) r = covers r (place_at places place).range
    stays_in (unary o t e) r = covers r (range_of t)
    stays_in (chain e os) r = last_stays (stays_in e r) os r
    stays_in (call_standard f t es) r = covers r (range_of t) || (covers (range_of t) r && chosen_stay f (each_stays es r))
    stays_in (call_function f es) r = covers r (scratch_at (pous.frames f) 1).range

    pub each_stays : Expressions → Range → List Bool
    each_stays no_expressions r = []
    each_stays (expression e es) r = stays_in e r ∷ each_stays es r

module _ (pous : Pous) (b : BodyScope) where
  -- an expression of a type; operands behind a value of a type, whose result is of a type; the operands of a function; and the inputs of a
  -- FUNCTION, from a place of its frame on, each of which takes its expression
  abbrev mutual
    pub IsOf : Elementary → Expression → Type 0
    IsOf t (number v) = in_range v (range_of t) ≡ true
    IsOf t (cell place) = IsNamed b place × ((place_at b.places place).kind ≡ t)
    IsOf t (unary o k e) = (k ≡ t) × IsOf k e
    IsOf t (chain e os) = IsOf (first_kind t os) e × Join (first_kind t os) t os
    IsOf t (call_standard f k es) = (k ≡ t) × (is_function_for f k ≡ true) × AreOf (first_operand_kind f k) k es
    IsOf t (call_function f es) =
        (f < b.pous) × (2 + arity es ≤ length (pous.frames f).types) × ((scratch_at (pous.frames f) 1).kind ≡ t) × AreInputs (pous.frames f) 2 es

    pub Join : Elementary → Elementary → Operands → Type 0
    Join left t no_operands = left ≡ t
    Join left t (operand o k e os) = (k ≡ left) × (is_for o k ≡ true) × IsOf k e × Join (result_type o k) t os

    pub AreOf : Elementary → Elementary → Expressions → Type 0
    AreOf first others no_expressions = Unit {0}
    AreOf first others (expression e es) = IsOf first e × AreOf others others es

    pub AreInputs : FrameData → ℕ → Expressions → Type 0
    AreInputs frame place no_expressions = Unit {0}
    AreInputs frame place (expression e es) =
        IsOf (scratch_at frame place).kind e × (((scratch_at frame place).is_subrange || stays_in pous b.places e (scratch_at frame place).range) ≡ true)
        × AreInputs frame (place + 1) es

  -- A place takes an expression of its type; one that is no subrange takes each of its values.
  abbrev pub Takes : Scratch → Expression → Type 0
  Takes p e = IsOf p.kind e × ((p.is_subrange || stays_in pous b.places e p.range) ≡ true)
