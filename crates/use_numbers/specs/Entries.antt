-- The entries of tables, by their numbers.
use Rattle.std.specs.Prelude.{ℕ, List, Option, String, option_map, slice_get}
use Rattle.std.specs.HashMap.{HashMap, keys}
use Rattle.std.specs.String.{string_bytes}

-- the text of the entry of a number
abbrev pub text_at : {Y X S : Type 0} → HashMap (String Y) X S → ℕ → Option (List ℕ)
text_at m number = option_map string_bytes (slice_get (keys m) number)
