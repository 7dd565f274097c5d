-- Calls of FUNCTIONs: each input gets the last argument for it, and there is one.
use Rattle.std.proofs.Common.{◌≡◌, ◌≢◌, ◌+◌, ◌<◌, ◌≤◌, ◌==◌, ◌⊎◌, inl, inr, ℕ, zero, suc, ℤ, pos, Bool, true, false, ◌||◌, List, [], ◌∷◌, length, map, replicate, slice_set, get_or, Some, refl, sym, ap, subst, ◌∙◌, arith}
use Rattle.std.specs.Prelude.{All}
use Rattle.std.specs.List.{list_any}
use Rattle.std.proofs.lemmas.Bool.{and_parts, false≢true}
use Rattle.std.proofs.lemmas.Bool.Decides.{nat_tests}
use Rattle.std.proofs.lemmas.List.{length-set, length-replicate, get_or-set_same, get_or-set_other}
use Rattle.std.proofs.lemmas.List.Elements.{All-nil, All-cons, All-head, All-tail}
use Rattle.plc_types.specs.declared.data_type.DataType.{DataType}
use Rattle.program_tree.specs.Tree.{Expression, number, call_function}
use Rattle.program_tree.specs.View.{expressions_of}
use Rattle.source_tree.specs.Syntax.{Arguments}
use Rattle.rules.specs.declared.rule.Rule.TheVariants.{ArgumentCount, OperandType}
use Rattle.rules.specs.Judgements.{require}
use Rattle.program_tree.specs.OperandTypes.{arity}
use Rattle.meaning.specs.Frames.{FrameData, scratch_at}
use Rattle.typing.specs.declared.scope.Signature.{Signature}
use Rattle.typing.specs.Typing.{Scope, port_type, count_of}
use Rattle.typing.specs.Judged.{places_for, has_all_below, gives_all, fit_placed, judged_port, judged_given, judged_answer}
use Rattle.typing.specs.Typed.{PlacedData, placed, typed_given}
use Rattle.typed_programs.specs.Scopes.{Pous, BodyScope}
use Rattle.typed_programs.specs.Expressions.{AreInputs, Takes}
use Rattle.typed_scopes.specs.Fitting.{SignatureFits}
use Rattle.typed_scopes.proofs.Wholes.{whole_require, whole_and, whole_said}
use Rattle.typed_scopes.proofs.TypedValues.{IsValueIf, known_type, taken}
use Rattle.typed_scopes.proofs.GivenInputs.{whole_port, AreGivenValues, FitsItsInput, all_fit, places_given}

-- ---- what stands at a place

abbrev is_among : ℕ → List ℕ → Bool
is_among k numbers = list_any (λ n. n == k) numbers

-- all numbers below one are among some numbers
each_below : (count : ℕ) (numbers : List ℕ) (k : ℕ) → has_all_below count numbers ≡ true → k < count → is_among k numbers ≡ true
each_below zero numbers k all below = absurd (omega arith)
each_below (suc count) numbers k all below =
    let both = and_parts (has_all_below count numbers) (is_among count numbers) all in
    by (k == count) refl (λ less. each_below count numbers k both.0 less) both.1
  where
    by : (t : Bool) → (k == count) ≡ t → (k < count → is_among k numbers ≡ true) → is_among count numbers ≡ true → is_among k numbers ≡ true
    by true same others here = let e : count ≡ k = grind (arith, nat_tests) in subst (λ (j : ℕ). is_among j numbers ≡ true) e here
    by false other others here = let less : k < count = grind (arith, nat_tests) in others less

length-placed : (es : List Expression) (gs : List PlacedData) → length (placed es gs) ≡ length es
length-placed es [] = refl
length-placed es (g ∷ gs) = length-placed (slice_set es g.0 g.1) gs ∙ length-set es g.0 g.1

-- what is for a place has something
abbrev HasAt : (Expression → Type 0) → ℕ → PlacedData → Type 0
HasAt P k g = g.0 ≡ k → P g.1

-- what is placed at a place where something is, or was, has what all that is for it has
placed_at : (P : Expression → Type 0) (k : ℕ) (none : Expression) (es : List Expression) (gs : List PlacedData) → k < length es → All (HasAt P k) gs
    → P (get_or es k none) ⊎ (is_among k (map (λ (g : PlacedData). g.0) gs) ≡ true) → P (get_or (placed es gs) k none)
placed_at P k none es [] below all (inl here) = here
placed_at P k none es [] below all (inr among) = absurd (false≢true among)
placed_at P k none es (g ∷ gs) below all some =
    placed_at P k none (slice_set es g.0 g.1) gs (subst (λ (n : ℕ). k < n) (sym (length-set es g.0 g.1)) below) (All-tail (HasAt P k) g gs all) (by (g.0 == k) refl some)
  where
    by : (t : Bool) → (g.0 == k) ≡ t → P (get_or es k none) ⊎ ((t || is_among k (map (λ (h : PlacedData). h.0) gs)) ≡ true)
        → P (get_or (slice_set es g.0 g.1) k none) ⊎ (is_among k (map (λ (h : PlacedData). h.0) gs) ≡ true)
    by true same some =
        let e : g.0 ≡ k = grind (arith, nat_tests) in
        inl (subst P (sym (ap (λ (j : ℕ). get_or (slice_set es j g.1) k none) e ∙ get_or-set_same es k g.1 none below)) (All-head (HasAt P k) g gs all e))
    by false other (inl here) =
        let e : k ≢ g.0 = grind (arith, nat_tests) in
        inl (subst P (sym (get_or-set_other es g.0 k g.1 none e)) here)
    by false other (inr among) = inr among

-- ---- inputs

arity-list : (es : List Expression) → arity (expressions_of es) ≡ length es
arity-list [] = refl
arity-list (e ∷ es) = ap (λ (n : ℕ). n + 1) (arity-list es) ∙ one_more (length es)
  where
    one_more : (n : ℕ) → n + 1 ≡ suc n
    one_more n = omega arith

module _ (pous : Pous) (b : BodyScope) where
  inputs_from : (frame : FrameData) (place : ℕ) (none : Expression) (es : List Expression) → ((k : ℕ) → k < length es → Takes pous b (scratch_at frame (place + k)) (get_or es k none))
      → AreInputs pous b frame place (expressions_of es)
  inputs_from frame place none [] all = tt
  inputs_from frame place none (e ∷ es) all =
      let head = subst (λ (n : ℕ). Takes pous b (scratch_at frame n) e) (at_first place) (all 0 (omega arith)) in
      (head.0, head.1, inputs_from frame (place + 1) none es (λ k below. subst (λ (n : ℕ). Takes pous b (scratch_at frame n) (get_or es k none)) (one_further place k) (all (suc k) (omega arith))))
    where
      at_first : (n : ℕ) → n + 0 ≡ n
      at_first n = omega arith

      one_further : (n k : ℕ) → n + suc k ≡ n + 1 + k
      one_further n k = omega arith

module _ (pous : Pous) (b : BodyScope) (last : ℕ → ℤ) (scope : Scope) (s : Signature) (fits : SignatureFits pous b last scope s) where
  -- an argument for an input is one that its place takes
  input_taken : (k : ℕ) (e : Expression) → k < s.count → FitsItsInput pous b last scope s (k, e) → Takes pous b (scratch_at (pous.frames s.number) (2 + k)) e
  input_taken k e below given =
      let i = fits.inputs k below in
      let v = given i.port i.there in
      taken pous b last i.port.kind (scratch_at (pous.frames s.number) (2 + k)) e (i.place v.0 (known_type last i.port.kind v.1.known)) v.1

  abbrev given_values : List PlacedData → List Expression
  given_values gs = placed (replicate s.count (number (pos 0))) gs

  length-given : (gs : List PlacedData) → length (given_values gs) ≡ s.count
  length-given gs = length-placed (replicate s.count (number (pos 0))) gs ∙ length-replicate s.count (number (pos 0))

  all_for : (k : ℕ) → k < s.count → (gs : List PlacedData) → All (FitsItsInput pous b last scope s) gs → All (HasAt (Takes pous b (scratch_at (pous.frames s.number) (2 + k))) k) gs
  all_for k below [] all = All-nil (HasAt (Takes pous b (scratch_at (pous.frames s.number) (2 + k))) k)
  all_for k below (g ∷ gs) all =
      let fits_all : PlacedData → Type 0 = FitsItsInput pous b last scope s in
      All-cons (HasAt (Takes pous b (scratch_at (pous.frames s.number) (2 + k))) k) g gs
      (λ e. input_taken k g.1 below (subst (λ (j : ℕ). FitsItsInput pous b last scope s (j, g.1)) e (All-head fits_all g gs all))) (all_for k below gs (All-tail fits_all g gs all))

  each_taken : (args : Arguments) → gives_all scope s args ≡ true → All (FitsItsInput pous b last scope s) (typed_given scope s 0 args) → (k : ℕ) → k < s.count
      → Takes pous b (scratch_at (pous.frames s.number) (2 + k)) (get_or (given_values (typed_given scope s 0 args)) k (number (pos 0)))
  each_taken args gives all k below =
      let zeros = replicate s.count (number (pos 0)) in
      let gs = typed_given scope s 0 args in
      let among = each_below s.count (places_for scope s 0 args) k (and_parts (count_of args == s.count) (has_all_below s.count (places_for scope s 0 args)) gives).1 below in
      placed_at (Takes pous b (scratch_at (pous.frames s.number) (2 + k))) k (number (pos 0)) zeros gs (subst (λ (n : ℕ). k < n) (sym (length-replicate s.count (number (pos 0)))) below)
      (all_for k below gs all) (inr (subst (λ (l : List ℕ). is_among k l ≡ true) (sym (places_given pous b last scope s 0 args)) among))

  pub answer_is : (at : ℕ) (args : Arguments) → ((judged_given scope s 0 args).whole ≡ true → AreGivenValues pous b last scope s 0 args)
      → (judged_answer scope at s args (judged_given scope s 0 args)).whole ≡ true
      → IsValueIf pous b last (port_type s.result) (call_function s.number (expressions_of (given_values (typed_given scope s 0 args))))
  answer_is at args values whole =
      let parts = judged_given scope s 0 args in
      let counted = require parts (gives_all scope s args) ArgumentCount at in
      let both = whole_and (require counted (fit_placed scope s 0 args) OperandType at) (judged_port (Some s.result)) whole in
      let result = whole_said s.result.whole both.1 in
      let placed_fit = whole_require counted (fit_placed scope s 0 args) OperandType at both.0 in
      let all_given = whole_require parts (gives_all scope s args) ArgumentCount at placed_fit.0 in
      let given = given_values (typed_given scope s 0 args) in
      let all = all_fit pous b last scope s 0 args (values all_given.0) all_given.0 placed_fit.1 in
      let room = subst (λ (n : ℕ). 2 + n ≤ length (pous.frames s.number).types) (sym (arity-list given ∙ length-given (typed_given scope s 0 args))) fits.room in
      let inputs = inputs_from pous b (pous.frames s.number) 2 (number (pos 0)) given (λ k below. each_taken args all_given.1 all k (subst (λ (n : ℕ). k < n) (length-given (typed_given scope s 0 args)) below)) in
      subst (λ (t : DataType). IsValueIf pous b last t (call_function s.number (expressions_of given))) (sym (whole_port s.result result))
      (λ known. let place = fits.answer result known in record { known = place.known; typed = (fits.before, room, place.kind, inputs); stays = place.within })
