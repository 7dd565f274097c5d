-- Flat lists that are typed, one behind the other; scratch cells that stand at their places; and expressions whose values lie in the range of
-- their type.
use Rattle.std.proofs.Common.{◌≡◌, ℕ, suc, zero, ◌+◌, Bool, true, ◌&&◌, List, [], ◌∷◌, ◌++◌, length, refl, sym, ap, subst, ◌∙◌, arith, rules, tests}
use Rattle.std.specs.Prelude.{int_le, All}
use Rattle.std.proofs.lemmas.Bool.{and_parts, and_from, or_left, or_right}
use Rattle.std.proofs.lemmas.List.Elements.{All-head, All-tail}
use Rattle.std.proofs.lemmas.Int.{ints}
use Rattle.plc_types.specs.declared.elementary.Elementary.{Elementary}
use Rattle.plc_types.specs.declared.range.Range.{Range}
use Rattle.plc_types.specs.Types.{range_of, in_range}
use Rattle.program_tree.specs.Tree.{Expression, number, cell, unary, chain, call_standard, call_function, Operands, no_operands, operand}
use Rattle.program_tree.specs.declared.scratch.Scratch.{Scratch}
use Rattle.program_tree.specs.OperandTypes.{first_kind}
use Rattle.program_tree.specs.Places.{place_at, IsTypedPlace}
use Rattle.meaning.specs.Values.{result_type}
use Rattle.meaning.specs.StaysIn.{covers, last_stays, chosen_stay}
use Rattle.flat_core.specs.FlatTree.{FlatStatement}
use Rattle.flat_core.specs.FlatView.{flats_of}
use Rattle.node_core.specs.TypedFlats.{IsOf, Join, stays_in, each_stays, Takes, AreTypedFlatOver}

-- ---- ranges

pub covers_both : (r s : Range) → in_range s.low r ≡ true → in_range s.high r ≡ true → covers r s ≡ true
covers_both r s low high =
    and_from (int_le r.low s.low) (int_le s.high r.high) (and_parts (int_le r.low s.low) (int_le s.low r.high) low).0 (and_parts (int_le r.low s.high) (int_le s.high r.high) high).1

covers_itself : (r : Range) → covers r r ≡ true
covers_itself r = search (rules, tests, ints)

pub typed_at : (ps : List Scratch) (place : ℕ) → All IsTypedPlace ps → IsTypedPlace (place_at ps place)
typed_at [] place h = (refl, refl)
typed_at (p ∷ ps) zero h = All-head IsTypedPlace p ps h
typed_at (p ∷ ps) (suc place) h = typed_at ps place (All-tail IsTypedPlace p ps h)

-- ---- one list after another

module _ (ps : List Scratch) where
  abbrev pub Typed : List FlatStatement → Type 0
  Typed a = AreTypedFlatOver ps (flats_of a)

  pub typed_both : (a b : List FlatStatement) → Typed a → Typed b → Typed (a ++ b)
  typed_both [] b p q = q
  typed_both (t ∷ a) b p q = (p.0, typed_both a b p.1 q)

  -- a place takes what is told of it
  pub takes_at : (place : ℕ) (p : Scratch) (e : Expression) → place_at ps place ≡ p → Takes ps p e → Takes ps (place_at ps place) e
  takes_at place p e is h = subst (λ (q : Scratch). Takes ps q e) (sym is) h

  -- scratch cells stand from a place on
  abbrev pub StandFrom : ℕ → List Scratch → Type 0
  StandFrom k [] = Unit {0}
  StandFrom k (c ∷ made) = (place_at ps k ≡ c) × StandFrom (k + 1) made

  pub stand_front : (a b : List Scratch) (k : ℕ) → StandFrom k (a ++ b) → StandFrom k a
  stand_front [] b k h = tt
  stand_front (c ∷ a) b k h = (h.0, stand_front a b (k + 1) h.1)

  pub stand_back : (a b : List Scratch) (k : ℕ) → StandFrom k (a ++ b) → StandFrom (k + length a) b
  stand_back [] b k h = let e : k ≡ k + 0 = omega arith in subst (λ (j : ℕ). StandFrom j b) e h
  stand_back (c ∷ a) b k h = let e : k + 1 + length a ≡ k + length (c ∷ a) = omega arith in subst (λ (j : ℕ). StandFrom j b) e (stand_back a b (k + 1) h.1)

  -- ---- the values of an expression lie in the range of its type

  join_stays : (left t : Elementary) (os : Operands) (first : Bool) → Join ps left t os → (left ≡ t → first ≡ true) → last_stays first os (range_of t) ≡ true
  join_stays left t no_operands first h known = known h
  join_stays left t (operand o k e os) first h known =
      join_stays (result_type o k) t os (covers (range_of t) (range_of (result_type o k))) h.3 (λ is. ap (λ q. covers (range_of t) (range_of q)) is ∙ covers_itself (range_of t))

  pub of_stays : All IsTypedPlace ps → (t : Elementary) (e : Expression) → IsOf ps t e → stays_in ps e (range_of t) ≡ true
  of_stays typed t (number v) h = h
  of_stays typed t (cell place) h =
      let p = typed_at ps place typed in
      ap (λ q. covers (range_of q) (place_at ps place).range) (sym h) ∙ covers_both (range_of (place_at ps place).kind) (place_at ps place).range p.0 p.1
  of_stays typed t (unary o k e) h = ap (λ q. covers (range_of t) (range_of q)) h.0 ∙ covers_itself (range_of t)
  of_stays typed t (chain e os) h =
      join_stays (first_kind t os) t os (stays_in ps e (range_of t)) h.1 (λ is. of_stays typed t e (subst (λ q. IsOf ps q e) is h.0))
  of_stays typed t (call_standard f k es) h =
      or_left (covers (range_of t) (range_of k)) (covers (range_of k) (range_of t) && chosen_stay f (each_stays ps es (range_of t))) (ap (λ q. covers (range_of t) (range_of q)) h.0 ∙ covers_itself (range_of t))
  of_stays typed t (call_function f es) h = absurd h

  -- a place of a whole type takes each expression of its type
  pub whole_takes : All IsTypedPlace ps → (p : Scratch) (e : Expression) → p.range ≡ range_of p.kind → IsOf ps p.kind e → Takes ps p e
  whole_takes typed p e whole h = (h, or_right p.is_subrange (stays_in ps e p.range) (ap (λ r. stays_in ps e r) whole ∙ of_stays typed p.kind e h))
