-- Sets of texts, by maps of no values.
use Rattle.std.specs.Prelude.{◌≡◌, ℕ, List, Bool, ◌||◌, is_some, String}
use Rattle.std.specs.HashMap.{HashMap, get_by_text}

abbrev pub has : {Y X S : Type 0} → HashMap (String Y) X S → List ℕ → Bool
has m text = is_some (get_by_text m text)

-- one set has besides what another has the texts that pass a test
abbrev pub Adds : {Y X S : Type 0} → HashMap (String Y) X S → HashMap (String Y) X S → (List ℕ → Bool) → Type 0
Adds m n test = (text : List ℕ) → has n text ≡ (has m text || test text)

-- a set has the texts that pass a test
abbrev pub IsSetOf : {Y X S : Type 0} → HashMap (String Y) X S → (List ℕ → Bool) → Type 0
IsSetOf m test = (text : List ℕ) → has m text ≡ test text
