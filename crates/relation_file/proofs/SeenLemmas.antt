-- One more name.
use Rattle.std.proofs.Common.{◌≡◌, ℕ, List, ◌∷◌, Bool, true, cond, ◌||◌, String, ap, ◌∙◌}
use Rattle.std.specs.Str.{bytes_eq}
use Rattle.std.specs.String.{string_bytes, string_eq}
use Rattle.std.proofs.lemmas.Map.Text.{hash_set_updates_text}
use Rattle.indexmap.specs.IndexSet.{IndexSet, contains_text, Updates}
use Rattle.candidates.specs.ByPath.{is_among}
use Rattle.candidates.proofs.NameLemmas.{or_is}
use Rattle.relation_file.specs.Seen.{Lists}

pub lists_push : {Y S : Type 0} (old new : IndexSet (String Y) S) (key : String Y) (text : List ℕ) (before : List (List ℕ)) → Updates string_eq old new key true → string_bytes key ≡ text → Lists old before → Lists new (text ∷ before)
lists_push old new key text before updates named lists = λ i t. (one t) i
  where
    one : (t : List ℕ) → contains_text new t ≡ is_among (text ∷ before) t
    one t =
        hash_set_updates_text (string_bytes key) old new true updates t
        ∙ ap (λ (k : List ℕ). cond (bytes_eq k t) true (contains_text old t)) named
        ∙ or_is (bytes_eq text t) (contains_text old t)
        ∙ ap (λ (f : List ℕ → Bool). bytes_eq text t || f t) lists
