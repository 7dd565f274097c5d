-- The text of an entry, by its number.
use Rattle.std.proofs.Common.{◌≡◌, ℕ, slice_get, Some, option_map, ap, ◌∙◌, String}
use Rattle.std.specs.HashMap.{HashMap}
use Rattle.std.specs.String.{string_bytes}
use Rattle.std.proofs.lemmas.Option.{slice_get-map}
use Rattle.use_numbers.specs.Entries.{text_at}

-- the entry of a number has the text of its key
pub text_of : {Y X S : Type 0} (m : HashMap (String Y) X S) (i : ℕ) (key : String Y) (v : X) → slice_get m.entries i ≡ Some (key, v) → text_at m i ≡ Some (string_bytes key)
text_of m i key v at = ap (option_map string_bytes) (slice_get-map (λ e. e.0) m.entries i ∙ ap (option_map (λ e. e.0)) at)
