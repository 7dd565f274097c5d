-- What formulas begin with, kept from one query to the next.
use Rattle.std.specs.Prelude.{◌≡◌, Option, IfSome}
use Rattle.clause_core.specs.Formula.{Formula}

-- it is that, if anything is kept
abbrev pub IsKept : Formula → Option Formula → Type 0
IsKept front kept = IfSome kept (λ f. f ≡ front)
