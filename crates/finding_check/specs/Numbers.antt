-- Hints as a checker takes them.
use Rattle.std.specs.Prelude.{ℕ, ◌^◌, ℤ, nat_lt, List, map, if◌then◌else◌}
use Rattle.judgement.specs.Steps.{hint_of}

-- a number that has more than 32 bits is that of no clause, as there are fewer
abbrev pub short_hint : ℤ → ℕ
short_hint n = if nat_lt (hint_of n) (2 ^ 32) then hint_of n else 0

abbrev pub short_hints : List ℤ → List ℕ
short_hints hints = map short_hint hints
