-- What is left of a typed expression behind the statements of its calls is of its type, and its values stay in the same ranges.
use Rattle.std.proofs.Common.{◌≡◌, ℕ, ◌+◌, Bool, ◌&&◌, ◌||◌, List, ◌∷◌, length, refl, sym, ap, subst, ◌∙◌}
use Rattle.plc_types.specs.declared.elementary.Elementary.{Elementary}
use Rattle.plc_types.specs.declared.range.Range.{Range}
use Rattle.plc_types.specs.Types.{range_of}
use Rattle.program_tree.specs.Tree.{Expression, number, cell, unary, chain, call_standard, call_function, Operands, no_operands, operand, Expressions, no_expressions, expression}
use Rattle.program_tree.specs.declared.scratch.Scratch.{Scratch}
use Rattle.program_tree.specs.OperandTypes.{arity, first_operand_kind, first_kind}
use Rattle.program_tree.specs.Places.{place_at}
use Rattle.meaning.specs.Values.{result_type}
use Rattle.meaning.specs.Frames.{scratch_at}
use Rattle.meaning.specs.StaysIn.{covers, last_stays, chosen_stay}
use Rattle.flat_form.specs.Frames.{others_behind, other_scratch}
use Rattle.flat_form.specs.Calls.{rest_scratch, scratch_in, operand_scratch, all_scratch, input_scratch, moved, moved_operands, all_moved}
use Rattle.node_core.specs.TypedFlats as flats
use Rattle.typed_programs.specs.Expressions.{IsOf, Join, AreOf, stays_in, each_stays, Takes}
use Rattle.typed_flat_laws.proofs.TypedLists.{StandFrom, stand_front, stand_back}
use Rattle.typed_flat_laws.proofs.Standing.{Standing, pous_of, others-length}

module _ (s : Standing) where
  abbrev pub Stand : ℕ → List Scratch → Type 0
  Stand k made = StandFrom s.places k made

  abbrev pub Is : Elementary → Expression → Type 0
  Is t e = IsOf (pous_of s) s.scope t e

  abbrev pub left : Expression → ℕ → Expression
  left e k = moved s.bodies s.owner s.base e k

  abbrev pub left_operands : Operands → ℕ → Operands
  left_operands os k = moved_operands s.bodies s.owner s.base os k

  -- where a call's answer stands
  pub answer-stands : (f : ℕ) (es : Expressions) (k : ℕ) → Stand k (scratch_in s.bodies (call_function f es))
      → place_at s.places (k + length (input_scratch s.bodies (s.bodies.frame f) 2 es) + others_behind (s.bodies.frame f) (arity es)) ≡ scratch_at (s.bodies.frame f) 1
  answer-stands f es k stands =
      let frame = s.bodies.frame f in
      let inputs = input_scratch s.bodies frame 2 es in
      let others = other_scratch frame (2 + arity es) (others_behind frame (arity es)) in
      let behind = scratch_at frame 1 ∷ s.bodies.call_scratch f in
      let rest = stand_back s.places inputs (rest_scratch s.bodies frame f (arity es)) k stands in
      let last = stand_back s.places others behind (k + length inputs) rest in
      ap (λ n. place_at s.places (k + length inputs + n)) (sym (others-length frame (2 + arity es) (others_behind frame (arity es)))) ∙ last.0

  first-same : (t : Elementary) (os : Operands) (k : ℕ) → first_kind t os ≡ first_kind t (left_operands os k)
  first-same t no_operands k = refl
  first-same t (operand o q e os) k = refl

  mutual
    pub moved-is : (t : Elementary) (e : Expression) (k : ℕ) → Is t e → Stand k (scratch_in s.bodies e) → flats.IsOf s.places t (left e k)
    moved-is t (number v) k h stands = h
    moved-is t (cell place) k h stands = ap (λ (p : Scratch). p.kind) (s.owns place h.0.0 h.0.1) ∙ h.1
    moved-is t (unary o q e) k h stands = (h.0, moved-is q e k h.1 stands)
    moved-is t (chain e os) k h stands =
        let mine = scratch_in s.bodies e in
        let others = operand_scratch s.bodies os in
        let j = k + length mine in
        let same = first-same t os j in (
          subst (λ q. flats.IsOf s.places q (left e k)) same (moved-is (first_kind t os) e k h.0 (stand_front s.places mine others k stands)),
          subst (λ q. flats.Join s.places q t (left_operands os j)) same (operands-are (first_kind t os) t os j h.1 (stand_back s.places mine others k stands)),
        )
    moved-is t (call_standard f q es) k h stands = (h.0, h.1, all-are (first_operand_kind f q) q es k h.2 stands)
    moved-is t (call_function f es) k h stands = ap (λ (p : Scratch). p.kind) (answer-stands f es k stands) ∙ h.2

    operands-are : (before t : Elementary) (os : Operands) (k : ℕ) → Join (pous_of s) s.scope before t os → Stand k (operand_scratch s.bodies os) → flats.Join s.places before t (left_operands os k)
    operands-are before t no_operands k h stands = h
    operands-are before t (operand o q e os) k h stands =
        let mine = scratch_in s.bodies e in
        let others = operand_scratch s.bodies os in
        (h.0, h.1, moved-is q e k h.2 (stand_front s.places mine others k stands), operands-are (result_type o q) t os (k + length mine) h.3 (stand_back s.places mine others k stands))

    all-are : (first others : Elementary) (es : Expressions) (k : ℕ) → AreOf (pous_of s) s.scope first others es → Stand k (all_scratch s.bodies es) → flats.AreOf s.places first others (all_moved s.bodies s.owner s.base es k)
    all-are first others no_expressions k h stands = tt
    all-are first others (expression e es) k h stands =
        let mine = scratch_in s.bodies e in
        let more = all_scratch s.bodies es in
        (moved-is first e k h.0 (stand_front s.places mine more k stands), all-are others others es (k + length mine) h.1 (stand_back s.places mine more k stands))

  -- ---- ranges

  last-same : (os : Operands) (k : ℕ) (r : Range) (a b : Bool) → a ≡ b → last_stays a (left_operands os k) r ≡ last_stays b os r
  last-same no_operands k r a b e = e
  last-same (operand o q f os) k r a b e = last-same os _ r (covers r (range_of (result_type o q))) (covers r (range_of (result_type o q))) refl

  mutual
    pub moved-stays : (t : Elementary) (e : Expression) (k : ℕ) (r : Range) → Is t e → Stand k (scratch_in s.bodies e) → flats.stays_in s.places (left e k) r ≡ stays_in (pous_of s) s.scope.places e r
    moved-stays t (number v) k r h stands = refl
    moved-stays t (cell place) k r h stands = ap (λ (p : Scratch). covers r p.range) (s.owns place h.0.0 h.0.1)
    moved-stays t (unary o q e) k r h stands = refl
    moved-stays t (chain e os) k r h stands =
        last-same os (k + length (scratch_in s.bodies e)) r _ _ (moved-stays (first_kind t os) e k r h.0 (stand_front s.places (scratch_in s.bodies e) (operand_scratch s.bodies os) k stands))
    moved-stays t (call_standard f q es) k r h stands =
        ap (λ (l : List Bool). covers r (range_of q) || (covers (range_of q) r && chosen_stay f l)) (each-stays (first_operand_kind f q) q es k r h.2 stands)
    moved-stays t (call_function f es) k r h stands = ap (λ (p : Scratch). covers r p.range) (answer-stands f es k stands)

    each-stays : (first others : Elementary) (es : Expressions) (k : ℕ) (r : Range) → AreOf (pous_of s) s.scope first others es → Stand k (all_scratch s.bodies es)
        → flats.each_stays s.places (all_moved s.bodies s.owner s.base es k) r ≡ each_stays (pous_of s) s.scope.places es r
    each-stays first others no_expressions k r h stands = refl
    each-stays first others (expression e es) k r h stands =
        let mine = scratch_in s.bodies e in
        let more = all_scratch s.bodies es in
        let now = moved-stays first e k r h.0 (stand_front s.places mine more k stands) in
        let later = each-stays others others es (k + length mine) r h.1 (stand_back s.places mine more k stands) in
        ap (λ (x : Bool). x ∷ flats.each_stays s.places (all_moved s.bodies s.owner s.base es (k + length mine)) r) now ∙ ap (λ (l : List Bool). stays_in (pous_of s) s.scope.places e r ∷ l) later

  -- a place takes what is left of an expression that it takes
  pub moved-taken : (p : Scratch) (e : Expression) (k : ℕ) → Takes (pous_of s) s.scope p e → Stand k (scratch_in s.bodies e) → flats.Takes s.places p (left e k)
  moved-taken p e k h stands = (moved-is p.kind e k h.0 stands, ap (λ (x : Bool). p.is_subrange || x) (moved-stays p.kind e k p.range h.0 stands) ∙ h.1)
