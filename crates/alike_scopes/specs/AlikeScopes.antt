-- Two scopes of one POU that differ in nothing but the places of cells.
use Rattle.std.specs.Prelude.{◌≡◌, ℕ, List, Bool, false, ◌==◌, Option, Some, None, option_map}
use Rattle.typing.specs.declared.scope.Place.{Place}
use Rattle.typing.specs.declared.scope.Place.TheVariants as places
use Rattle.typing.specs.declared.scope.Meaning.{Meaning}
use Rattle.typing.specs.Typing.{Reference, Scope}

-- a meaning but for the number of its cell
abbrev pub unplaced : Place → Place
unplaced (places.Cell c) = places.Cell 0
unplaced (places.Value v) = places.Value v

abbrev pub cleared : Meaning → Meaning
cleared m = record m { place = unplaced m.place }

pub record AreAlike (s t : Scope) : Type 0 where
  pub means : (r : Reference) → option_map cleared (s.means r) ≡ option_map cleared (t.means r)
  pub signature : (text : List ℕ) → s.signature text ≡ t.signature text
  pub port : (function place : ℕ) → s.port function place ≡ t.port function place
  pub input : (function : ℕ) (name : List ℕ) → s.input function name ≡ t.input function name

-- one cell
abbrev pub is_same_place : Place → Place → Bool
is_same_place (places.Cell c) (places.Cell d) = c == d
is_same_place (places.Cell c) (places.Value w) = false
is_same_place (places.Value v) q = false

abbrev pub is_same_cell : Option Meaning → Option Meaning → Bool
is_same_cell None n = false
is_same_cell (Some m) None = false
is_same_cell (Some m) (Some n) = is_same_place m.place n.place
