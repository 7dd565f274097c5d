-- Where the cells of a body stand among those of an owner, and the ranges that its expressions stay in.
use Rattle.std.proofs.Common.{◌≡◌, ℕ, ◌+◌, ◌<◌, ◌≤◌, Bool, true, ◌&&◌, ◌||◌, List, ◌∷◌, length, refl, ap, ◌∙◌}
use Rattle.plc_types.specs.declared.elementary.Elementary.{Elementary}
use Rattle.plc_types.specs.declared.range.Range.{Range}
use Rattle.plc_types.specs.Types.{range_of}
use Rattle.program_tree.specs.Tree.{Expression, number, cell, unary, chain, call_standard, call_function, Operands, no_operands, operand, Expressions, no_expressions, expression}
use Rattle.program_tree.specs.declared.scratch.Scratch.{Scratch}
use Rattle.program_tree.specs.OperandTypes.{first_operand_kind, first_kind}
use Rattle.program_tree.specs.Places.{place_at}
use Rattle.meaning.specs.Effects.{range_at}
use Rattle.meaning.specs.Frames.{FrameData}
use Rattle.meaning.specs.StaysIn.{covers, last_stays, chosen_stay}
use Rattle.flat_form.specs.WellTyped as well
use Rattle.typed_programs.specs.Scopes.{Pous, BodyScope}
use Rattle.typed_programs.specs.Expressions.{IsOf, AreOf, stays_in, each_stays}

-- a cell of an owner takes what a place takes, and tests the range of a subrange
pub record IsCellFor (ranges : List Range) (tested : ℕ → Bool) (place : ℕ) (p : Scratch) : Type 0 where
  pub room : place < length ranges
  pub range : range_at ranges place ≡ p.range
  pub is_subrange : p.is_subrange ≡ true → tested place ≡ true

-- A body whose named cells are an owner's, from a base on; FAULT is none of them.
pub record OwnCells : Type 0 where
  pub frames : ℕ → FrameData
  pub instances : ℕ → List Scratch
  pub scope : BodyScope
  pub within : scope.settable ≤ length scope.places
  pub ranges : List Range
  pub tested : ℕ → Bool
  pub base : ℕ
  pub behind_fault : 0 < base + scope.first
  pub owns : (n : ℕ) → scope.first ≤ n → n < length scope.places → IsCellFor ranges tested (base + n) (place_at scope.places n)

abbrev pub pous_for : OwnCells → Pous
pous_for w = record { frames = w.frames; instances = w.instances }

-- ---- ranges

module _ (w : OwnCells) where
  mutual
    pub stays-same : (t : Elementary) (e : Expression) (r : Range) → IsOf (pous_for w) w.scope t e → well.stays_in w.frames w.ranges w.base e r ≡ stays_in (pous_for w) w.scope.places e r
    stays-same t (number v) r h = refl
    stays-same t (cell place) r h = ap (λ (x : Range). covers r x) (w.owns place h.0.0 h.0.1).range
    stays-same t (unary o q e) r h = refl
    stays-same t (chain e os) r h = ap (λ (x : Bool). last_stays x os r) (stays-same (first_kind t os) e r h.0)
    stays-same t (call_standard f q es) r h =
        ap (λ (l : List Bool). covers r (range_of q) || (covers (range_of q) r && chosen_stay f l)) (each-same (first_operand_kind f q) q es r h.2)
    stays-same t (call_function f es) r h = refl

    each-same : (first others : Elementary) (es : Expressions) (r : Range) → AreOf (pous_for w) w.scope first others es → well.each_stays w.frames w.ranges w.base es r ≡ each_stays (pous_for w) w.scope.places es r
    each-same first others no_expressions r h = refl
    each-same first others (expression e es) r h =
        ap (λ (x : Bool). x ∷ well.each_stays w.frames w.ranges w.base es r) (stays-same first e r h.0) ∙ ap (λ (l : List Bool). stays_in (pous_for w) w.scope.places e r ∷ l) (each-same others others es r h.1)
