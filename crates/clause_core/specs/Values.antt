-- Partial assignments, and the values of literals under them.
use Rattle.std.specs.Prelude.{ℕ, ◌+◌, Bool, true, false, not, List, [], ◌∷◌, slice_index_or, slice_set, if◌then◌else◌}
use Rattle.clause_core.specs.declared.literal.Lit.{Lit}
use Rattle.clause_core.specs.declared.truth.Truth.{Truth}
use Rattle.clause_core.specs.declared.truth.Truth.TheVariants.{Open, True, False}

-- a literal with the other sign
abbrev pub negation : Lit → Lit
negation l = record { variable = l.variable; negative = not l.negative }

abbrev pub opposite : Truth → Truth
opposite Open = Open
opposite True = False
opposite False = True

-- the value of a literal of this sign, from its variable's
abbrev pub signed_truth : Bool → Truth → Truth
signed_truth true t = opposite t
signed_truth false t = t

-- a partial assignment lists a value for each variable, and gives the others none
abbrev pub value : List Truth → Lit → Truth
value vs l = signed_truth l.negative (slice_index_or vs l.variable Open)

-- the values with this literal true
abbrev pub put_true : List Truth → Lit → List Truth
put_true vs l = slice_set vs l.variable (signed_truth l.negative True)

-- the values with this literal false
abbrev pub put_false : List Truth → Lit → List Truth
put_false vs l = slice_set vs l.variable (signed_truth l.negative False)

abbrev pub is_true : Truth → Bool
is_true True = true
is_true False = false
is_true Open = false

abbrev pub is_false : Truth → Bool
is_false False = true
is_false True = false
is_false Open = false

abbrev pub is_open : Truth → Bool
is_open Open = true
is_open True = false
is_open False = false

-- how many pass a test
abbrev pub how_many : {X : Type 0} → (X → Bool) → List X → ℕ
how_many p [] = 0
how_many p (x ∷ xs) = (if p x then 1 else 0) + how_many p xs
