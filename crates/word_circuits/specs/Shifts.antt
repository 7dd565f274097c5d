-- Shifts and rotations: no gates.
use Rattle.std.specs.Prelude.{ℕ, ◌-◌, ◌%◌, min, List, ◌++◌, length, take, drop}
use Rattle.clause_core.specs.declared.literal.Lit.{Lit}
use Rattle.word_circuits.specs.Words.{zeros}

-- by k places towards the top, k at most the width: zeros come in below
abbrev pub moved_up : ℕ → List Lit → List Lit
moved_up k a = zeros k ++ take (length a - k) a

-- towards the bottom: zeros come in above
abbrev pub moved_down : ℕ → List Lit → List Lit
moved_down k a = drop k a ++ zeros k

-- more places than the width are as many as the width
abbrev pub shl_of : ℕ → List Lit → List Lit
shl_of k a = moved_up (min k (length a)) a

abbrev pub shr_of : ℕ → List Lit → List Lit
shr_of k a = moved_down (min k (length a)) a

-- by k places towards the top, k below the width: what leaves comes in below
abbrev pub turned : ℕ → List Lit → List Lit
turned k a = drop (length a - k) a ++ take (length a - k) a

abbrev pub rol_of : ℕ → List Lit → List Lit
rol_of k a = turned (k % length a) a

abbrev pub ror_of : ℕ → List Lit → List Lit
ror_of k a = drop (k % length a) a ++ take (k % length a) a
