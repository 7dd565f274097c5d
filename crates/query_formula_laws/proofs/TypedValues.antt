-- Values that are of the types of cells.
use Rattle.std.specs.Prelude.{◌≡◌, true, List, [], ◌∷◌}
use Rattle.plc_types.specs.declared.elementary.Elementary.{Elementary}
use Rattle.plc_types.specs.Types.{range_of, in_range}
use Rattle.meaning.specs.Values.{State}

-- each value is one of its type
abbrev pub AreOfTypes : List Elementary → State → Type 0
AreOfTypes [] [] = Unit {0}
AreOfTypes [] (x ∷ xs) = ⊥
AreOfTypes (t ∷ ts) [] = ⊥
AreOfTypes (t ∷ ts) (x ∷ xs) = (in_range x (range_of t) ≡ true) × AreOfTypes ts xs
