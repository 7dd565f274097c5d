-- The bits of words that have given values.
use Rattle.std.specs.Prelude.{Bool, true, List, [], ◌∷◌, ◌++◌, map}
use Rattle.clause_core.specs.Satisfaction.{literal_true}
use Rattle.plc_types.specs.declared.elementary.Elementary.{Elementary}
use Rattle.plc_types.specs.Types.{width_of}
use Rattle.meaning.specs.Values.{State}
use Rattle.word_circuits.specs.Words.{constant_of}

-- the bits of the word of each value, the lowest first
abbrev pub value_bits : List Elementary → State → List (List Bool)
value_bits [] s = []
value_bits (t ∷ ts) [] = []
value_bits (t ∷ ts) (x ∷ s) = map (literal_true (λ y. true)) (constant_of (width_of t) x) ∷ value_bits ts s

-- one behind the other
abbrev pub joined : List (List Bool) → List Bool
joined [] = []
joined (b ∷ bs) = b ++ joined bs
