-- One more step among those that are found by name.
use Rattle.std.proofs.Common.{◌≡◌, ℕ, ◌+◌, List, [], ◌∷◌, ◌++◌, length, Bool, true, false, not, Option, Some, None, is_none, is_some, if◌then◌else◌, refl, sym, ap, ◌∙◌, String, add-zero, zero-add, arith}
use Rattle.std.specs.HashMap.{HashMap, get_by_text, UpdatesBy}
use Rattle.std.specs.String.{string_bytes, string_eq}
use Rattle.std.specs.Str.{bytes_eq}
use Rattle.std.specs.Option.{unwrap_or}
use Rattle.std.specs.Cmp.Lexicographic.{bytes_decides}
use Rattle.std.proofs.lemmas.Map.Text.{hash_map_updates_text}
use Rattle.source_tree.specs.Syntax.{ChartStepData}
use Rattle.sfc_shape.specs.Shapes.{step_number}
use Rattle.sfc_shape.specs.ShapeView.{number_found}

pub is_none-found : (o : Option ℕ) (b : Bool) → is_some o ≡ not b → is_none o ≡ b
is_none-found None true h = refl
is_none-found None false h = absurd (let e : ⊥ = cc in e)
is_none-found (Some k) true h = absurd (let e : ⊥ = cc in e)
is_none-found (Some k) false h = refl

-- what is found once a step of a number stands behind others
abbrev pushed : List ℕ → ChartStepData → ℕ → Option ℕ → Option ℕ
pushed text s i (Some n) = Some n
pushed text s i None = if bytes_eq s.name.text text then Some i else None

more : (text : List ℕ) (k : ℕ) (xs : List ChartStepData) (s : ChartStepData) → number_found k (xs ++ s ∷ []) text ≡ pushed text s (k + length xs) (number_found k xs text)
more text k [] s = ap (λ n. if bytes_eq s.name.text text then Some n else None) (sym (add-zero k))
more text k (x ∷ xs) s = by (bytes_eq x.name.text text) (more text (k + 1) xs s)
  where
    number : k + 1 + length xs ≡ k + length (x ∷ xs)
    number = omega arith

    by : (b : Bool) → number_found (k + 1) (xs ++ s ∷ []) text ≡ pushed text s (k + 1 + length xs) (number_found (k + 1) xs text)
        → (if b then Some k else number_found (k + 1) (xs ++ s ∷ []) text) ≡ pushed text s (k + length (x ∷ xs)) (if b then Some k else number_found (k + 1) xs text)
    by true rest = refl
    by false rest = rest ∙ ap (λ n. pushed text s n (number_found (k + 1) xs text)) number

found-push : (text : List ℕ) (xs : List ChartStepData) (s : ChartStepData) → number_found 0 (xs ++ s ∷ []) text ≡ pushed text s (length xs) (number_found 0 xs text)
found-push text xs s = more text 0 xs s ∙ ap (λ n. pushed text s n (number_found 0 xs text)) (zero-add (length xs))

-- a step of a name that another has already
pub known-push : (xs : List ChartStepData) (s : ChartStepData) (text : List ℕ) → is_none (number_found 0 xs s.name.text) ≡ false → number_found 0 xs text ≡ number_found 0 (xs ++ s ∷ []) text
known-push xs s text known = by (bytes_eq s.name.text text) refl (number_found 0 xs text) refl ∙ sym (found-push text xs s)
  where
    by : (b : Bool) → bytes_eq s.name.text text ≡ b → (o : Option ℕ) → number_found 0 xs text ≡ o → number_found 0 xs text ≡ pushed text s (length xs) (number_found 0 xs text)
    by b eq (Some n) found = rw found refl
    by true eq None found = absurd (let e : false ≡ true = sym known ∙ ap (λ t. is_none (number_found 0 xs t)) ((bytes_decides s.name.text text).0 eq) ∙ ap is_none found in let n : ⊥ = cc in n)
    by false eq None found = rw (found, eq) refl

module _ {Y S : Type 0} (m n : HashMap (String Y) ℕ S) (key : String Y) (xs : List ChartStepData) (s : ChartStepData) (i : ℕ) where
  -- a step of a name that none has yet
  pub unknown-push : ((text : List ℕ) → get_by_text m text ≡ number_found 0 xs text) → UpdatesBy string_eq (string_eq key) m n (Some i) → string_bytes key ≡ s.name.text → length xs ≡ i
      → is_none (number_found 0 xs s.name.text) ≡ true → (text : List ℕ) → get_by_text n text ≡ number_found 0 (xs ++ s ∷ []) text
  unknown-push held updates named number none text =
      hash_map_updates_text (string_bytes key) m n (Some i) updates text ∙ rw (named, held text) (by (bytes_eq s.name.text text) refl) ∙ sym (found-push text xs s)
    where
      nothing : (o : Option ℕ) → is_none o ≡ true → o ≡ None
      nothing None h = refl
      nothing (Some k) h = absurd (let e : ⊥ = cc in e)

      by : (b : Bool) → bytes_eq s.name.text text ≡ b → (if b then Some i else number_found 0 xs text) ≡ pushed text s (length xs) (number_found 0 xs text)
      by true eq =
          let found : number_found 0 xs text ≡ None = ap (number_found 0 xs) (sym ((bytes_decides s.name.text text).0 eq)) ∙ nothing (number_found 0 xs s.name.text) none in
          rw (found, eq, number) refl
      by false eq = other (number_found 0 xs text)
        where
          other : (o : Option ℕ) → o ≡ pushed text s (length xs) o
          other (Some k) = refl
          other None = rw eq refl

-- where no step has the name, its number is the one behind the last
pub number_by : (k : ℕ) (xs : List ChartStepData) (text : List ℕ) → step_number k xs text ≡ unwrap_or (number_found k xs text) (k + length xs)
number_by k [] text = sym (add-zero k)
number_by k (x ∷ xs) text = by (bytes_eq x.name.text text) (number_by (k + 1) xs text)
  where
    number : k + 1 + length xs ≡ k + length (x ∷ xs)
    number = omega arith

    by : (b : Bool) → step_number (k + 1) xs text ≡ unwrap_or (number_found (k + 1) xs text) (k + 1 + length xs)
        → (if b then k else step_number (k + 1) xs text) ≡ unwrap_or (if b then Some k else number_found (k + 1) xs text) (k + length (x ∷ xs))
    by true rest = refl
    by false rest = rest ∙ ap (unwrap_or (number_found (k + 1) xs text)) number

pub number_from : (xs : List ChartStepData) (text : List ℕ) (o : Option ℕ) → number_found 0 xs text ≡ o → step_number 0 xs text ≡ unwrap_or o (length xs)
number_from xs text o found = number_by 0 xs text ∙ ap (λ p. unwrap_or p (0 + length xs)) found ∙ ap (unwrap_or o) (zero-add (length xs))
