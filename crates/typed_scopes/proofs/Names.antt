-- What a whole name stands for is a value of its type.
use Rattle.std.proofs.Common.{◌≡◌, ℕ, ℤ, Bool, true, if◌then◌else◌, Option, Some, None, refl, sym, subst}
use Rattle.std.proofs.lemmas.Bool.{false≢true}
use Rattle.plc_types.specs.declared.data_type.DataType.{DataType}
use Rattle.plc_types.specs.declared.data_type.DataType.TheVariants as kinds
use Rattle.typing.specs.declared.scope.Place.{Place}
use Rattle.typing.specs.declared.scope.Place.TheVariants as places
use Rattle.typing.specs.declared.scope.Meaning.{Meaning}
use Rattle.typing.specs.Typing.{kind_at, or_else, or_dint}
use Rattle.typing.specs.Judged.{judged_meaning}
use Rattle.typing.specs.Typed.{read_of, meaning_read}
use Rattle.typed_programs.specs.Scopes.{Pous, BodyScope}
use Rattle.typed_scopes.specs.Fitting.{IsAt, MeaningFits}
use Rattle.typed_scopes.proofs.Wholes.{whole_said}
use Rattle.typed_scopes.proofs.TypedValues.{IsValueOf, IsValueIf, number_value, cell_value}

-- a whole name stands for something
pub record IsWhole (found : Option Meaning) : Type 0 where
  pub meaning : Meaning
  pub is : found ≡ Some meaning
  pub whole : meaning.whole ≡ true

pub whole_meaning : (m : Option Meaning) → (judged_meaning m).whole ≡ true → IsWhole m
whole_meaning None whole = absurd (false≢true whole)
whole_meaning (Some m) whole = record { meaning = m; is = refl; whole = whole_said m.whole whole }

-- and has a type
pub kind_of_whole : (m : Meaning) → m.whole ≡ true → kind_at (Some m) ≡ Some m.kind
kind_of_whole m whole = subst (λ (w : Bool). Some (if w then m.kind else kinds.Unknown) ≡ Some m.kind) (sym whole) refl

module _ (pous : Pous) (b : BodyScope) (last : ℕ → ℤ) where
  read_is : (m : Meaning) (p : Place) → IsAt b last m p → IsValueOf pous b last m.kind (read_of p)
  read_is m (places.Cell c) at = cell_value pous b last m.kind c at.0 at.1
  read_is m (places.Value v) at = number_value pous b last m.kind v at.0 at.1

  pub meaning_is : (m : Meaning) → MeaningFits b last m → m.whole ≡ true → IsValueIf pous b last m.kind (meaning_read (Some m))
  meaning_is m fits whole known = read_is m m.place (fits whole known)

  -- where any type is expected
  pub name_is : (expected : Option DataType) (m : Option Meaning) → ((n : Meaning) → m ≡ Some n → MeaningFits b last n) → (judged_meaning m).whole ≡ true
      → IsValueIf pous b last (or_dint (or_else (kind_at m) expected)) (meaning_read m)
  name_is expected None fits whole = absurd (false≢true whole)
  name_is expected (Some m) fits whole =
      let w = whole_said m.whole whole in
      subst (λ (k : Option DataType). IsValueIf pous b last (or_dint (or_else k expected)) (meaning_read (Some m))) (sym (kind_of_whole m w)) (meaning_is m (fits m refl) w)
