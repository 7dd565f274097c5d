-- What may be assigned over one scope may be over another that differs in the places of cells alone, where the cells of control variables are apart in both.
use Rattle.std.proofs.Common.{◌≡◌, ℕ, List, [], Bool, true, false, not, ◌&&◌, ◌||◌, ◌==◌, Option, Some, None, option_map, refl, sym, ap, ◌∙◌}
use Rattle.std.specs.List.{list_any}
use Rattle.std.proofs.lemmas.Bool.{and_from, and_parts}
use Rattle.typing.specs.declared.scope.Place.{Place}
use Rattle.typing.specs.declared.scope.Place.TheVariants as places
use Rattle.typing.specs.declared.scope.Meaning.{Meaning}
use Rattle.typing.specs.Typing.{Reference, Scope}
use Rattle.typing.specs.JudgedStatements.{is_free, is_assignable, is_control, with_place, with_control}
use Rattle.bound_names.specs.typed_scopes.Uses.{Usable}
use Rattle.alike_scopes.specs.AlikeScopes.{unplaced, cleared, AreAlike, is_same_place, is_same_cell}
use Rattle.alike_scopes.proofs.AlikeNames.{control_alike}

neither : (a b : Bool) → not (a || b) ≡ (not b && not a)
neither true true = refl
neither true false = refl
neither false true = refl
neither false false = refl

and_yes : (b : Bool) → b ≡ (b && true)
and_yes true = refl
and_yes false = refl

and_not_no : (b c : Bool) → b ≡ (b && not (c && false))
and_not_no true true = refl
and_not_no true false = refl
and_not_no false c = refl

free_with : (c : List ℕ) (p q : Place) → is_free (with_place c q) p ≡ (is_free c p && not (is_same_place p q))
free_with c (places.Value v) q = refl
free_with c (places.Cell x) (places.Cell y) = neither (x == y) (list_any (λ d. x == d) c)
free_with c (places.Cell x) (places.Value w) = and_yes (is_free c (places.Cell x))

assignable_by : (assignable control : Bool) (c : List ℕ) (p q : Place) → (assignable && (not control || is_free (with_place c q) p)) ≡ ((assignable && (not control || is_free c p)) && not (control && is_same_place p q))
assignable_by false control c p q = refl
assignable_by true false c p q = refl
assignable_by true true c p q = free_with c p q

assignable_with : (c : List ℕ) (a b : Option Meaning) → is_assignable (with_control c b) a ≡ (is_assignable c a && not (is_control a && is_same_cell a b))
assignable_with c None b = refl
assignable_with c (Some m) None = and_not_no (is_assignable c (Some m)) m.control
assignable_with c (Some m) (Some n) = assignable_by m.assignable m.control c m.place n.place

free_of_place : (p : Place) → is_free [] p ≡ is_free [] (unplaced p)
free_of_place (places.Cell c) = refl
free_of_place (places.Value v) = refl

assignable_free : (o : Option Meaning) → is_assignable [] o ≡ is_assignable [] (option_map cleared o)
assignable_free None = refl
assignable_free (Some m) = ap (λ (b : Bool). m.assignable && (not m.control || b)) (free_of_place m.place)

-- control variables have one cell in one scope where they have one in the other
abbrev pub AreApart : Usable → Scope → Scope → Type 0
AreApart uses s t =
    (r q : Reference) → uses.names r ≡ true → uses.names q ≡ true → is_control (s.means r) ≡ true → is_control (s.means q) ≡ true → is_same_cell (s.means r) (s.means q) ≡ is_same_cell (t.means r) (t.means q)

module _ (s t : Scope) (alike : AreAlike s t) (uses : Usable) (apart : AreApart uses s t) where
  abbrev pub AreAlikeControls : List ℕ → List ℕ → Type 0
  AreAlikeControls c d = (r : Reference) → uses.names r ≡ true → is_assignable c (s.means r) ≡ true → is_assignable d (t.means r) ≡ true

  pub no_controls : AreAlikeControls [] []
  no_controls r named h = sym (assignable_free (s.means r) ∙ ap (is_assignable []) (alike.means r) ∙ sym (assignable_free (t.means r))) ∙ h

  pub more_controls : (c d : List ℕ) → AreAlikeControls c d → (q : Reference) → uses.names q ≡ true → is_control (s.means q) ≡ true → AreAlikeControls (with_control c (s.means q)) (with_control d (t.means q))
  more_controls c d before q control_named control r named h =
      let a = s.means r in
      let b = s.means q in
      let x = t.means r in
      let y = t.means q in
      let two = and_parts (is_assignable c a) (not (is_control a && is_same_cell a b)) (sym (assignable_with c a b) ∙ h) in
      let same = control_alike a x (alike.means r) in
      assignable_with d x y ∙ and_from (is_assignable d x) (not (is_control x && is_same_cell x y)) (before r named two.0) (ap (λ (k : Bool). not (k && is_same_cell x y)) (sym same) ∙ by (is_control a) refl two.1)
    where
      by : (k : Bool) → is_control (s.means r) ≡ k → not (is_control (s.means r) && is_same_cell (s.means r) (s.means q)) ≡ true → not (is_control (s.means r) && is_same_cell (t.means r) (t.means q)) ≡ true
      by true e n = ap (λ (k : Bool). not (is_control (s.means r) && k)) (sym (apart r q named control_named e control)) ∙ n
      by false e n = ap (λ (k : Bool). not (k && is_same_cell (t.means r) (t.means q))) e
