-- One more element of a list that is seen by its view.
use Rattle.std.proofs.Common.{◌≡◌, ◌<◌, ℕ, ◌+◌, List, [], ◌∷◌, ◌++◌, length, take, drop, get_or, map, arith}
use Rattle.std.proofs.lemmas.Grind.{common_steps}

module _ {A B : Type 0} (view : A → B) (xs : List A) (i : ℕ) (x : A) where
  pub view-take : i < length xs → x ≡ get_or xs i x → map view (take (i + 1) xs) ≡ map view (take i xs) ++ view x ∷ []
  view-take below at = grind (arith, common_steps)

  pub view-drop : i < length xs → x ≡ get_or xs i x → map view (drop i xs) ≡ view x ∷ map view (drop (i + 1) xs)
  view-drop below at = grind (arith, common_steps)
