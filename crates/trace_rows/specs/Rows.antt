-- Rows of one width that stand one behind the other in a list of numbers.
use Rattle.std.specs.Prelude.{ℕ, zero, suc, List, [], ◌∷◌, take, drop, ℤ}

-- the first so many rows
abbrev pub rows_of : ℕ → ℕ → List ℤ → List (List ℤ)
rows_of width zero zs = []
rows_of width (suc count) zs = take width zs ∷ rows_of width count (drop width zs)
