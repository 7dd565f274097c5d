-- Numbers at their names, one by one.
use Rattle.std.proofs.Common.{◌≡◌, ℕ, ◌+◌, ◌<◌, ◌≤◌, ℤ, pos, List, [], ◌∷◌, length, drop, get_or, map, refl, sym, ap, ◌∙◌, arith, inl, inr, ⊎_elim}
use Rattle.std.specs.Prelude.{◌⊎◌, min}
use Rattle.std.proofs.lemmas.Grind.{common_steps}
use Rattle.std.proofs.lemmas.Bool.{cases_lt}
use Rattle.std.proofs.lemmas.List.{length-map}
use Rattle.serde_json.specs.Data.{number, Members, put}
use Rattle.serde_json.specs.Find.{of_integer}
use Rattle.finding_report.specs.Reports.{with_numbers}

-- the first of what is left
left_first : {A : Type 0} (xs : List A) (i : ℕ) (x : A) → i < length xs → x ≡ get_or xs i x → drop i xs ≡ x ∷ drop (i + 1) xs
left_first xs i x below at = grind (arith, common_steps)

pub left_value : (values : List ℤ) (i : ℕ) → i < length values → drop i values ≡ get_or values i (pos 0) ∷ drop (i + 1) values
left_value values i below = grind (arith, common_steps)

-- no name is left, or no number
no_more : (names : List (List ℕ)) (values : List ℤ) (ms : Members) → (length names ≡ 0) ⊎ (length values ≡ 0) → with_numbers names values ms ≡ ms
no_more [] values ms none = refl
no_more (n ∷ ns) [] ms none = refl
no_more (n ∷ ns) (v ∷ vs) ms (inl none) = absurd (omega (arith, none))
no_more (n ∷ ns) (v ∷ vs) ms (inr none) = absurd (omega (arith, none))

module _ {A : Type 0} (name_of : A → List ℕ) (things : List A) (values : List ℤ) (i : ℕ) (old : Members) where
  -- one more number at its name
  pub numbers_next : (thing : A) (name : List ℕ) (value first : ℤ) (new : Members) → i < length things → thing ≡ get_or things i thing → name ≡ name_of thing
      → drop i values ≡ first ∷ drop (i + 1) values → value ≡ first → new ≡ put name (number (of_integer value)) old
      → with_numbers (map name_of (drop (i + 1) things)) (drop (i + 1) values) new ≡ with_numbers (map name_of (drop i things)) (drop i values) old
  numbers_next thing name value first new below at named left same is =
      let more_names = map name_of (drop (i + 1) things) in
      let more_values = drop (i + 1) values in
      let names : map name_of (drop i things) ≡ name_of thing ∷ more_names = ap (map name_of) (left_first things i thing below at) in
      ap (with_numbers more_names more_values) (is ∙ ap (λ v. put name (number (of_integer v)) old) same ∙ ap (λ n. put n (number (of_integer first)) old) named)
      ∙ sym (ap (λ ns. with_numbers ns (drop i values) old) names ∙ ap (λ vs. with_numbers (name_of thing ∷ more_names) vs old) left)

  numbers_over : (length things ≤ i) ⊎ (length values ≤ i) → with_numbers (map name_of (drop i things)) (drop i values) old ≡ old
  numbers_over (inl none) =
      let over : length (map name_of (drop i things)) ≡ 0 = grind (arith, common_steps, length-map) in
      no_more (map name_of (drop i things)) (drop i values) old (inl over)
  numbers_over (inr none) =
      let over : length (drop i values) ≡ 0 = grind (arith, common_steps) in
      no_more (map name_of (drop i things)) (drop i values) old (inr over)

  -- all are done that have a name and a number
  pub numbers_done : min (length things) (length values) ≤ i → with_numbers (map name_of (drop i things)) (drop i values) old ≡ old
  numbers_done done =
      ⊎_elim
      (λ (more : i < length things). numbers_over (inr (omega (arith, done, more))))
      (λ (none : length things ≤ i). numbers_over (inl none))
      (cases_lt i (length things))
