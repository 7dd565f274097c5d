-- What names tell does not rest on the numbers of their cells.
use Rattle.std.proofs.Common.{◌≡◌, true, true≢false, Option, Some, None, option_map, refl, sym, ap, ◌∙◌}
use Rattle.typing.specs.declared.scope.Place.{Place}
use Rattle.typing.specs.declared.scope.Place.TheVariants as places
use Rattle.typing.specs.declared.scope.Meaning.{Meaning}
use Rattle.typing.specs.Typing.{kind_at}
use Rattle.typing.specs.Judged.{judged_meaning}
use Rattle.typing.specs.Typed.{read_of, meaning_read, value_of_number}
use Rattle.typing.specs.Constants.{is_value, means_value}
use Rattle.typing.specs.JudgedStatements.{is_control, is_input_of_instance, range_at}
use Rattle.alike_scopes.specs.AlikeScopes.{unplaced, cleared}

-- what a function tells of two names, where it tells the same of them without their cells
module _ {X : Type 0} (g : Option Meaning → X) (free : (o : Option Meaning) → g o ≡ g (option_map cleared o)) (m n : Option Meaning) (alike : option_map cleared m ≡ option_map cleared n) where
  told_alike : g m ≡ g n
  told_alike = free m ∙ ap g alike ∙ sym (free n)

kind_free : (o : Option Meaning) → kind_at o ≡ kind_at (option_map cleared o)
kind_free None = refl
kind_free (Some m) = refl

meaning_free : (o : Option Meaning) → judged_meaning o ≡ judged_meaning (option_map cleared o)
meaning_free None = refl
meaning_free (Some m) = refl

control_free : (o : Option Meaning) → is_control o ≡ is_control (option_map cleared o)
control_free None = refl
control_free (Some m) = refl

input_free : (o : Option Meaning) → is_input_of_instance o ≡ is_input_of_instance (option_map cleared o)
input_free None = refl
input_free (Some m) = refl

range_free : (o : Option Meaning) → range_at o ≡ range_at (option_map cleared o)
range_free None = refl
range_free (Some m) = refl

value_of_place : (p : Place) → is_value p ≡ is_value (unplaced p)
value_of_place (places.Cell c) = refl
value_of_place (places.Value v) = refl

value_free : (o : Option Meaning) → means_value o ≡ means_value (option_map cleared o)
value_free None = refl
value_free (Some m) = value_of_place m.place

number_of_place : (p : Place) → value_of_number (read_of p) ≡ value_of_number (read_of (unplaced p))
number_of_place (places.Cell c) = refl
number_of_place (places.Value v) = refl

number_free : (o : Option Meaning) → value_of_number (meaning_read o) ≡ value_of_number (meaning_read (option_map cleared o))
number_free None = refl
number_free (Some m) = number_of_place m.place

read_of_place : (p : Place) → is_value p ≡ true → read_of p ≡ read_of (unplaced p)
read_of_place (places.Cell c) h = absurd (true≢false (sym h))
read_of_place (places.Value v) h = refl

read_free : (o : Option Meaning) → means_value o ≡ true → meaning_read o ≡ meaning_read (option_map cleared o)
read_free None h = absurd (true≢false (sym h))
read_free (Some m) h = read_of_place m.place h

module _ (m n : Option Meaning) (alike : option_map cleared m ≡ option_map cleared n) where
  pub kind_alike : kind_at m ≡ kind_at n
  kind_alike = told_alike kind_at kind_free m n alike

  pub meaning_alike : judged_meaning m ≡ judged_meaning n
  meaning_alike = told_alike judged_meaning meaning_free m n alike

  pub control_alike : is_control m ≡ is_control n
  control_alike = told_alike is_control control_free m n alike

  pub input_alike : is_input_of_instance m ≡ is_input_of_instance n
  input_alike = told_alike is_input_of_instance input_free m n alike

  pub range_alike : range_at m ≡ range_at n
  range_alike = told_alike range_at range_free m n alike

  pub value_alike : means_value m ≡ means_value n
  value_alike = told_alike means_value value_free m n alike

  pub number_alike : value_of_number (meaning_read m) ≡ value_of_number (meaning_read n)
  number_alike = told_alike (λ o. value_of_number (meaning_read o)) number_free m n alike

  pub read_alike : means_value m ≡ true → meaning_read m ≡ meaning_read n
  read_alike h = read_free m h ∙ ap meaning_read alike ∙ sym (read_free n (sym value_alike ∙ h))
