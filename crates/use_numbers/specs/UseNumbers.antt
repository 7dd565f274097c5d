-- The numbers of a file's uses of names, by half of the place of each, and the entries that they lead to.
use Rattle.std.specs.Prelude.{◌≡◌, ◌⊎◌, ℕ, ◌/◌, nat_eq, List, Option, Some, None, String, slice_index_or, if◌then◌else◌}
use Rattle.std.specs.HashMap.{HashMap}
use Rattle.source_tree.specs.Syntax.{Named}
use Rattle.use_numbers.specs.Entries.{text_at}

-- the number of the use at a place, where one is kept
abbrev pub number_at : List (Option ℕ) → ℕ → Option ℕ
number_at numbers at = slice_index_or numbers (at / 2) None

-- the number of the use at a place is kept, and all others are as they were
abbrev pub IsKept : List (Option ℕ) → ℕ → ℕ → List (Option ℕ) → Type 0
IsKept old at number new = (other : ℕ) → number_at new other ≡ (if nat_eq (other / 2) (at / 2) then Some number else number_at old other)

-- of the use of a name the number of its entry is kept, or nothing changes
abbrev pub NotesUse : {Y X S : Type 0} → HashMap (String Y) X S → Named → List (Option ℕ) → List (Option ℕ) → Type 0
NotesUse m name old new = (new ≡ old) ⊎ ((number : ℕ) × (text_at m number ≡ Some name.text) × IsKept old name.at number new)
