-- The names of the variables of a program that are no cells.
use Rattle.std.specs.Prelude.{◌≡◌, ℕ, List}
use Rattle.std.specs.Str.{bytes_eq}
use denote.Ref.{Bor}
use Rattle.indexmap.specs.IndexSet.{IndexSet, contains_by}
use Rattle.candidates.specs.ByPath.{is_among}

-- a set has these names
abbrev pub HasNames : {S : Type 0} → IndexSet (Bor (List ℕ)) S → List (List ℕ) → Type 0
HasNames set names = (text : List ℕ) → contains_by (λ name. bytes_eq text name.now) set ≡ is_among names text
