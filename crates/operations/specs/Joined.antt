-- MIN and MAX of values, joined from left to right.
use Rattle.std.specs.Prelude.{List, [], ◌∷◌, ℤ, pos}
use Rattle.plc_types.specs.declared.function.Function.{Function}
use Rattle.plc_types.specs.declared.function.Function.TheVariants as functions
use Rattle.meaning.specs.Values.{lesser, greater}

-- what MIN and MAX make of two values; 0 for the other functions
abbrev pub joined : Function → ℤ → ℤ → ℤ
joined (functions.Convert from) v w = pos 0
joined functions.Absolute v w = pos 0
joined functions.Minimum v w = lesser v w
joined functions.Maximum v w = greater v w
joined functions.Limit v w = pos 0
joined functions.Select v w = pos 0
joined (functions.Shift s n) v w = pos 0

abbrev pub joined_on : Function → ℤ → List ℤ → ℤ
joined_on f v [] = v
joined_on f v (w ∷ ws) = joined_on f (joined f v w) ws

-- 0 where there are no values
abbrev pub all_joined : Function → List ℤ → ℤ
all_joined f [] = pos 0
all_joined f (v ∷ vs) = joined_on f v vs
