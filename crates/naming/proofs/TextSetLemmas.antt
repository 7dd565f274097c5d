-- One more text in a set.
use Rattle.std.proofs.Common.{◌≡◌, ℕ, List, [], ◌∷◌, ◌++◌, Bool, true, false, ◌||◌, Option, Some, None, is_some, refl, sym, ap, ◌∙◌, if◌then◌else◌, String}
use Rattle.std.specs.HashMap.{HashMap, get_by_text, UpdatesBy}
use Rattle.std.specs.List.{list_any}
use Rattle.std.specs.Str.{bytes_eq}
use Rattle.std.specs.String.{string_bytes, string_eq}
use Rattle.std.proofs.lemmas.Map.Text.{hash_map_updates_text}
use Rattle.std.proofs.Math.Bool.{or-false, or_assoc}
use Rattle.naming.specs.TextSets.{has, Adds}

now_in : {X : Type 0} (x : X) (b : Bool) (o : Option X) → is_some (if b then Some x else o) ≡ (is_some o || b)
now_in x true None = refl
now_in x true (Some y) = refl
now_in x false None = refl
now_in x false (Some y) = refl

any_push : {A : Type 0} (p : A → Bool) (xs : List A) (x : A) → list_any p (xs ++ x ∷ []) ≡ (list_any p xs || p x)
any_push p [] x = or-false (p x)
any_push p (y ∷ ys) x = ap (λ b. p y || b) (any_push p ys x) ∙ sym (or_assoc (p y) (list_any p ys) (p x))

module _ {Y X S : Type 0} (m n : HashMap (String Y) X S) where
  -- a key that is inserted
  pub inserted : (key : String Y) (x : X) (own : List ℕ) → UpdatesBy string_eq (string_eq key) m n (Some x) → string_bytes key ≡ own → Adds m n (bytes_eq own)
  inserted key x own updates named text =
      ap is_some (hash_map_updates_text (string_bytes key) m n (Some x) updates text)
      ∙ ap (λ t. is_some (if bytes_eq t text then Some x else get_by_text m text)) named
      ∙ now_in x (bytes_eq own text) (get_by_text m text)

  -- a text that is met, behind those met before
  pub met_push : (before : List (List ℕ)) (own : List ℕ) → ((text : List ℕ) → has m text ≡ list_any (λ t. bytes_eq t text) before) → Adds m n (bytes_eq own)
      → (text : List ℕ) → has n text ≡ list_any (λ t. bytes_eq t text) (before ++ own ∷ [])
  met_push before own held added text = added text ∙ ap (λ b. b || bytes_eq own text) (held text) ∙ sym (any_push (λ t. bytes_eq t text) before own)
