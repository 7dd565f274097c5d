-- Words for numbers.
use Rattle.std.specs.Prelude.{ℕ, zero, suc, List, Option, Some, None, decimal, if◌then◌else◌}
use Rattle.std.specs.Str.{bytes_eq}

-- the first of so many numbers behind one that a word spells: decimal digits, without a zero in front
abbrev pub first_spelled : ℕ → ℕ → List ℕ → Option ℕ
first_spelled less zero word = None
first_spelled less (suc more) word = if bytes_eq (decimal (suc less)) word then Some (suc less) else first_spelled (suc less) more word

-- the number from 1 to 341 that it spells
unfoldable pub count_of : List ℕ → Option ℕ
count_of word = first_spelled 0 341 word
