-- Lines by a pattern, in which `#` stands for a number.
use Rattle.std.specs.Prelude.{ℕ, zero, suc, ◌==◌, List, [], ◌∷◌, ◌++◌, if◌then◌else◌, decimal}

-- the number in place of each #
abbrev pub filled : List ℕ → ℕ → List ℕ
filled [] number = []
filled (code ∷ more) number = if code == 35 then decimal number ++ filled more number else code ∷ filled more number

-- a line for each number from 1 to this one, in their order
abbrev pub lines : List ℕ → ℕ → List ℕ
lines pattern zero = []
lines pattern (suc number) = lines pattern number ++ filled pattern (suc number)
