-- Values of enumerations by their names.
use Rattle.std.proofs.Common.{◌≡◌, ℕ, ◌+◌, ◌-◌, ◌<◌, ◌≤◌, ◌==◌, rules, tests, Bool, true, false, cond, if◌then◌else◌, List, [], ◌∷◌, length, get_or, drop, Option, Some, None, option_map, refl, sym, ap, ◌∙◌, arith, Bor, String, Vec, Global}
use Rattle.std.specs.Str.{bytes_eq}
use Rattle.std.specs.String.{string_bytes}
use Rattle.std.proofs.lemmas.Map.Text.{hash_map_updates_str}
use Rattle.indexmap.specs.IndexMap.{IndexMap, get_by, Updates}
use Rattle.plc_types.specs.Enumerations.{place_of_name, or_in_later, value_named}
use Rattle.program_tree.specs.View.{texts_view, lists_of_texts}
use Rattle.clause_types.specs.declared.enumeration_values.EnumerationValue.{EnumerationValue}
use Rattle.typing.specs.Programs.{own_type, value_member}
use Rattle.clause_types.specs.Sides.{whole_value, kept_value, kept_or, FindsValues}
use Rattle.clause_types.proofs.SideLemmas.{last_one}

chosen : (b : Bool) (k kind : ℕ) (o : Option ℕ) (later : Option EnumerationValue) → cond b (Some (kept_value (kind, k))) (kept_or o kind later) ≡ kept_or (if b then Some k else o) kind later
chosen true k kind o later = refl
chosen false k kind o later = refl

-- one more value, before those that are found
pub one_more_value : {S : Type 0} (kind : ℕ) (names : List (String Global)) (place : ℕ) (key : Bor (List ℕ)) (name : String Global) (v : EnumerationValue) (old new : IndexMap (Bor (List ℕ)) EnumerationValue S) (before : List ℕ → Option EnumerationValue)
    → 0 < place → place ≤ length names → name ≡ get_or names (place - 1) name → key.now ≡ string_bytes name → v ≡ kept_value (kind, place - 1)
    → Updates (λ x y. bytes_eq x.now y.now) old new key (Some v)
    → ((text : List ℕ) → get_by (λ k. bytes_eq text k.now) old ≡ kept_or (place_of_name text place (texts_view (drop place names))) kind (before text))
    → (text : List ℕ) → get_by (λ k. bytes_eq text k.now) new ≡ kept_or (place_of_name text (place - 1) (texts_view (drop (place - 1) names))) kind (before text)
one_more_value kind names place key name v old new before some within same named valued updates finds text =
    let rest : List (List ℕ) = texts_view (drop place names) in
    let next : place ≡ place - 1 + 1 = omega arith in
    let listed : texts_view (drop (place - 1) names) ≡ string_bytes name ∷ rest = ap texts_view (last_one names place name some within) ∙ ap (λ x. string_bytes x ∷ rest) (sym same) in
    let one : get_by (λ k. bytes_eq text k.now) new ≡ cond (bytes_eq key.now text) (Some v) (get_by (λ k. bytes_eq text k.now) old) = hash_map_updates_str key.now old new (Some v) updates text in
    let two : get_by (λ k. bytes_eq text k.now) old ≡ kept_or (place_of_name text (place - 1 + 1) rest) kind (before text) = finds text ∙ ap (λ n. kept_or (place_of_name text n rest) kind (before text)) next in
    one ∙ ap (λ o. cond (bytes_eq key.now text) (Some v) o) two
    ∙ ap (λ (t : List ℕ). cond (bytes_eq t text) (Some v) (kept_or (place_of_name text (place - 1 + 1) rest) kind (before text))) named
    ∙ ap (λ (x : EnumerationValue). cond (bytes_eq (string_bytes name) text) (Some x) (kept_or (place_of_name text (place - 1 + 1) rest) kind (before text))) valued
    ∙ chosen (bytes_eq (string_bytes name) text) (place - 1) kind (place_of_name text (place - 1 + 1) rest) (before text)
    ∙ ap (λ (l : List (List ℕ)). kept_or (place_of_name text (place - 1) l) kind (before text)) (sym listed)

kept_later : (o : Option ℕ) (n : ℕ) (later : Option (ℕ × ℕ)) → kept_or o n (option_map kept_value later) ≡ option_map kept_value (or_in_later o n later)
kept_later (Some k) n later = refl
kept_later None n later = refl

-- one more type, before those whose values are found
pub one_more_type : {S : Type 0} (types : List (Vec (String Global) Global)) (place : ℕ) (own : Vec (String Global) Global) (names : List (String Global)) (old new : IndexMap (Bor (List ℕ)) EnumerationValue S)
    → 0 < place → place ≤ length types → own ≡ get_or types (place - 1) own → names ≡ own.items
    → ((text : List ℕ) → get_by (λ k. bytes_eq text k.now) new ≡ kept_or (place_of_name text 0 (texts_view names)) (place - 1) (get_by (λ k. bytes_eq text k.now) old))
    → FindsValues old place (lists_of_texts (drop place types)) → FindsValues new (place - 1) (lists_of_texts (drop (place - 1) types))
one_more_type types place own names old new some within same listed more finds text =
    let rest : List (List (List ℕ)) = lists_of_texts (drop place types) in
    let next : place ≡ place - 1 + 1 = omega arith in
    let all : lists_of_texts (drop (place - 1) types) ≡ texts_view own.items ∷ rest = ap lists_of_texts (last_one types place own some within) ∙ ap (λ (x : Vec (String Global) Global). texts_view x.items ∷ rest) (sym same) in
    let later : get_by (λ k. bytes_eq text k.now) old ≡ option_map kept_value (value_named text (place - 1 + 1) rest) = finds text ∙ ap (λ n. option_map kept_value (value_named text n rest)) next in
    more text ∙ ap (kept_or (place_of_name text 0 (texts_view names)) (place - 1)) later
    ∙ kept_later (place_of_name text 0 (texts_view names)) (place - 1) (value_named text (place - 1 + 1) rest)
    ∙ ap (λ (l : List (String Global)). option_map kept_value (or_in_later (place_of_name text 0 (texts_view l)) (place - 1) (value_named text (place - 1 + 1) rest))) listed
    ∙ ap (λ (l : List (List (List ℕ))). option_map kept_value (value_named text (place - 1) l)) (sym all)

-- what is found of a name is what its value stands for
pub whole_member : (o : Option (ℕ × ℕ)) → option_map whole_value (option_map kept_value o) ≡ option_map (value_member own_type) o
whole_member None = refl
whole_member (Some v) = refl

pub none_left : {A : Type 0} → (xs : List A) → (length xs == 0) ≡ true → xs ≡ []
none_left [] e = refl
none_left (x ∷ xs) e = absurd (let h : ⊥ = search (rules, tests) in h)
