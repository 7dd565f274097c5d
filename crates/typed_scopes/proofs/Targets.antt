-- What may be assigned is a cell that may be set, and takes the values of its type.
use Rattle.std.proofs.Common.{◌≡◌, ℕ, List, ℤ, pos, ◌+ℤ◌, ◌*ℤ◌, true, ◌&&◌, Option, Some, None, refl, sym, subst, ◌∙◌, false}
use Rattle.std.proofs.lemmas.Bool.{and_parts, false≢true}
use Rattle.plc_types.specs.declared.data_type.DataType.{DataType}
use Rattle.plc_types.specs.declared.range.Range.{Range}
use Rattle.plc_types.specs.DataTypes.{is_same_type, is_integer_type}
use Rattle.plc_types.specs.Types.{in_range}
use Rattle.plc_types.proofs.SameTypes.{same_type}
use Rattle.source_tree.specs.Syntax.{Tree}
use Rattle.program_tree.specs.Tree.{Expression, assign}
use Rattle.program_tree.specs.Places.{place_at}
use Rattle.typing.specs.declared.scope.Place.{Place}
use Rattle.typing.specs.declared.scope.Place.TheVariants as places
use Rattle.typing.specs.declared.scope.Meaning.{Meaning}
use Rattle.typing.specs.Typing.{Scope, kind_at, or_dint, type_of, is_unknown}
use Rattle.typing.specs.Judged.{judged_meaning}
use Rattle.typing.specs.Typed.{meaning_read, typed}
use Rattle.typing.specs.Constants.{turn_count, broken_by_turns}
use Rattle.typing.specs.JudgedStatements.{is_assignable, is_input_of_instance, range_at}
use Rattle.typing.specs.TypedStatements.{place_cell, cell_of}
use Rattle.typed_programs.specs.Scopes.{Pous, BodyScope, IsSettable}
use Rattle.typed_programs.specs.Statements.{IsTyped}
use Rattle.typed_scopes.specs.Types.{IsPlaceOf}
use Rattle.typed_scopes.specs.Fitting.{IsAt, MeaningFits}
use Rattle.typed_scopes.proofs.Wholes.{whole_said}
use Rattle.typed_scopes.proofs.SameTypes.{same_known, elementary_known, of_integers}
use Rattle.typed_scopes.proofs.TypedValues.{IsValueOf, IsValueIf, known_type, fitted, taken}
use Rattle.typed_scopes.proofs.Names.{kind_of_whole, meaning_is}
use Rattle.typed_scopes.proofs.Turns.{turns_in}

-- a place that may be set, of a name's type and range
pub record IsTarget (b : BodyScope) (last : ℕ → ℤ) (m : Meaning) (cell : ℕ) : Type 0 where
  pub settable : IsSettable b cell
  pub place : IsPlaceOf last m.kind (place_at b.places cell)
  pub range : (place_at b.places cell).range ≡ m.range

target_at : (b : BodyScope) (last : ℕ → ℤ) (m : Meaning) (p : Place) → IsAt b last m p → m.assignable ≡ true → IsTarget b last m (place_cell p)
target_at b last m (places.Cell c) at assignable = record { settable = (at.0.0, at.3 assignable); place = at.1; range = at.2 }
target_at b last m (places.Value v) at assignable = absurd (false≢true (sym at.2 ∙ assignable))

pub is_input : (controls : List ℕ) (m : Option Meaning) → is_assignable controls m ≡ true → is_input_of_instance m ≡ true
is_input controls None h = absurd (false≢true h)
is_input controls (Some m) h = (and_parts m.assignable _ h).0

module _ (pous : Pous) (b : BodyScope) (last : ℕ → ℤ) (scope : Scope) where
  abbrev pub FoundFits : Option Meaning → Type 0
  FoundFits found = (m : Meaning) → found ≡ Some m → MeaningFits b last m

  target_is : (m : Meaning) → MeaningFits b last m → m.whole ≡ true → is_unknown m.kind ≡ false → m.assignable ≡ true → IsTarget b last m (cell_of (Some m))
  target_is m fits whole known assignable = target_at b last m m.place (fits whole known) assignable

  set_to : (m : Meaning) → MeaningFits b last m → m.whole ≡ true → m.assignable ≡ true → (e : Expression) → IsValueOf pous b last (or_dint (kind_at (Some m))) e → IsTyped pous b (assign (cell_of (Some m)) e)
  set_to m fits whole assignable e value =
      let v = subst (λ (k : Option DataType). IsValueOf pous b last (or_dint k) e) (kind_of_whole m whole) value in
      let target = target_is m fits whole (known_type last m.kind v.known) assignable in
      (target.settable, taken pous b last m.kind (place_at b.places (cell_of (Some m))) e target.place v)

  -- an expression of the type of a name that may be assigned
  pub assigned : (found : Option Meaning) → FoundFits found → (judged_meaning found).whole ≡ true → is_input_of_instance found ≡ true → (e : Tree)
      → IsValueIf pous b last (type_of scope (kind_at found) e) (typed scope (kind_at found) e) → is_same_type (type_of scope (kind_at found) e) (or_dint (kind_at found)) ≡ true
      → IsTyped pous b (assign (cell_of found) (typed scope (kind_at found) e))
  assigned None fits whole assignable e value same = absurd (false≢true whole)
  assigned (Some m) fits whole assignable e value same =
      let k = kind_at (Some m) in
      set_to m (fits m refl) (whole_said m.whole whole) assignable (typed scope k e) (fitted pous b last (type_of scope k e) (or_dint k) (typed scope k e) same value)

  -- what a name stands for, to a name of its type that may be assigned
  pub copied : (from to : Option Meaning) → FoundFits from → FoundFits to → (judged_meaning from).whole ≡ true → (judged_meaning to).whole ≡ true → is_input_of_instance to ≡ true
      → is_same_type (or_dint (kind_at to)) (or_dint (kind_at from)) ≡ true → IsTyped pous b (assign (cell_of to) (meaning_read from))
  copied None to from_fits to_fits whole to_whole assignable same = absurd (false≢true whole)
  copied (Some m) None from_fits to_fits whole to_whole assignable same = absurd (false≢true to_whole)
  copied (Some m) (Some n) from_fits to_fits whole to_whole assignable same =
      let w = whole_said m.whole whole in
      let known = subst (λ (k : Option DataType). is_unknown (or_dint k) ≡ false) (kind_of_whole m w) (same_known (or_dint (kind_at (Some n))) (or_dint (kind_at (Some m))) same) in
      let own = subst (λ (k : Option DataType). IsValueOf pous b last (or_dint k) (meaning_read (Some m))) (sym (kind_of_whole m w)) (meaning_is pous b last m (from_fits m refl) w known) in
      set_to n (to_fits n refl) (whole_said n.whole to_whole) assignable (meaning_read (Some m)) (subst (λ (t : DataType). IsValueOf pous b last t (meaning_read (Some m))) (sym (same_type (or_dint (kind_at (Some n))) (or_dint (kind_at (Some m))) same)) own)

  -- a control variable takes the values of its FOR's turns
  pub controlled : (found : Option Meaning) → FoundFits found → (judged_meaning found).whole ≡ true → is_input_of_instance found ≡ true → is_integer_type (or_dint (kind_at found)) ≡ true → (first final step : ℤ) → broken_by_turns (range_at found) first final step ≡ None
      → IsSettable b (cell_of found)
      × (in_range first (place_at b.places (cell_of found)).range && in_range (first +ℤ pos (turn_count first final step) *ℤ step) (place_at b.places (cell_of found)).range ≡ true)
  controlled None fits whole assignable integer first final step rule = absurd (false≢true whole)
  controlled (Some m) fits whole assignable integer first final step rule =
      let w = whole_said m.whole whole in
      let known = elementary_known m.kind (of_integers m.kind (subst (λ (k : Option DataType). is_integer_type (or_dint k) ≡ true) (kind_of_whole m w) integer)) in
      let target = target_is m (fits m refl) w known assignable in
      (target.settable, subst (λ (r : Range). in_range first r && in_range (first +ℤ pos (turn_count first final step) *ℤ step) r ≡ true) (sym target.range) (turns_in m.range first final step rule))
