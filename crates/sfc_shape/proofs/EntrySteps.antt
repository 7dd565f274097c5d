-- One more association in the list of an entry.
use Rattle.std.proofs.Common.{◌≡◌, ℕ, List, [], ◌∷◌, ◌++◌, slice_get, Bool, true, false, Option, Some, option_map, unwrap_or, if◌then◌else◌, sym, ap, ◌∙◌, refl, Vec, String}
use Rattle.std.specs.HashMap.{HashMap, get_by_text, IsUnique}
use Rattle.std.specs.String.{string_bytes, string_eq, string_eq_equiv}
use Rattle.std.specs.Str.{bytes_eq}
use Rattle.std.specs.Cmp.Lexicographic.{bytes_decides}
use Rattle.std.specs.declared.alloc.Global.{Global}
use Rattle.std.proofs.lemmas.List.{append-nil}
use Rattle.std.proofs.lemmas.Map.Entries.{hash_map_get_place}
use Rattle.std.proofs.lemmas.Map.Text.{hash_map_updates_text}
use Rattle.indexmap.specs.IndexMap.{with_value_at}
use Rattle.indexmap.proofs.CallerLemmas.{updates-with_value_at}
use Rattle.program_tree.specs.declared.typed.Association.{Association}
use Rattle.sfc_shape.specs.ShapeView.{listed}

module _ {S : Type 0} (m : HashMap (String Global) (Vec Association Global) S) (i : ℕ) (key : String Global) (old : Vec Association Global) (unique : IsUnique string_eq m)
    (at : slice_get m.entries i ≡ Some (key, old)) where
  own : listed m (string_bytes key) ≡ old.items
  own = ap (λ o. unwrap_or (option_map (λ v. v.items) o) []) (hash_map_get_place string_eq_equiv m i key old unique at)

  pub kept_at : (new : Vec Association Global) (a : Association) → new.items ≡ old.items ++ a ∷ [] → (text : List ℕ)
      → listed (with_value_at m i new) text ≡ listed m text ++ (if bytes_eq (string_bytes key) text then a ∷ [] else [])
  kept_at new a more text = ap view (hash_map_updates_text (string_bytes key) m (with_value_at m i new) (Some new) (updates-with_value_at m i new string_eq_equiv unique key old at) text) ∙ by (bytes_eq (string_bytes key) text) refl
    where
      view : Option (Vec Association Global) → List Association
      view o = unwrap_or (option_map (λ v. v.items) o) []

      by : (b : Bool) → bytes_eq (string_bytes key) text ≡ b → view (if b then Some new else get_by_text m text) ≡ listed m text ++ (if b then a ∷ [] else [])
      by true e = more ∙ ap (λ l. l ++ a ∷ []) (sym own ∙ ap (listed m) ((bytes_decides (string_bytes key) text).0 e))
      by false e = sym (append-nil (listed m text))
