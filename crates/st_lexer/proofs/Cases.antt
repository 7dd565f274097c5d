-- Words compared in upper case.
use Rattle.std.proofs.Common.{◌≡◌, ℕ, List, [], ◌∷◌, map, bytes_eq, ◌==◌, refl, arith}
use Rattle.std.specs.Char.{to_ascii_uppercase, to_ascii_lowercase}
use Rattle.std.proofs.lemmas.Bool.Decides.{nat_tests}

same_letter : (a b : ℕ) → (to_ascii_lowercase a == to_ascii_lowercase b) ≡ (to_ascii_uppercase a == to_ascii_uppercase b)
same_letter a b = grind (arith, nat_tests)

pub same_word : (s t : List ℕ) → bytes_eq (map to_ascii_lowercase s) (map to_ascii_lowercase t) ≡ bytes_eq (map to_ascii_uppercase s) (map to_ascii_uppercase t)
same_word [] [] = refl
same_word [] (b ∷ bs) = refl
same_word (a ∷ as') [] = refl
same_word (a ∷ as') (b ∷ bs) = rw (same_letter a b, same_word as' bs) refl
