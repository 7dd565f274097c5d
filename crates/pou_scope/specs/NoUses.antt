-- Whether nothing uses anything.
use Rattle.std.specs.Prelude.{Bool, true, [], ◌∷◌, ◌==◌, ◌&&◌, length}
use Rattle.call_order.specs.Uses.{Graph}

abbrev pub uses_nothing : Graph → Bool
uses_nothing [] = true
uses_nothing (us ∷ g) = (length us == 0) && uses_nothing g
