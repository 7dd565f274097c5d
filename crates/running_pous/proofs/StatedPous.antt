-- The POUs of a file of which some run, by their numbers.
use Rattle.std.proofs.Common.{◌≡◌, ℕ, zero, suc, ◌+◌, ◌<◌, Bool, true, List, [], ◌∷◌, length, map, get_or, refl, sym, ap, subst, ◌∙◌, arith}
use Rattle.std.proofs.lemmas.List.{length-map}
use Rattle.source_tree.specs.Syntax.{FileData}
use Rattle.program_tree.specs.Tree.{CalledData}
use Rattle.naming.specs.FileScope.{pou_at}
use Rattle.meaning.specs.Calls.{nothing}
use Rattle.typing.specs.Members.{called_order}
use Rattle.typing.specs.TypedPrograms.{called_if, called_by}
use Rattle.running_pous.specs.Stated.{stated_if, stated_from, stated_by}

module _ (f : FileData) (runs : ℕ → Bool) where
  from_at : (n : ℕ) (ks : List ℕ) (m : ℕ) → m < length ks → get_or (stated_from f runs n ks) m nothing ≡ stated_if f (get_or ks m 0) (runs (n + m))
  from_at n [] m low = absurd (omega (arith, low))
  from_at n (k ∷ ks) zero low = let here : n ≡ n + 0 = omega arith in ap (λ (i : ℕ). stated_if f k (runs i)) here
  from_at n (k ∷ ks) (suc m) low =
      let there : n + 1 + m ≡ n + suc m = omega arith in from_at (n + 1) ks m (omega (arith, low)) ∙ ap (λ (i : ℕ). stated_if f (get_or ks m 0) (runs i)) there

  length_from : (n : ℕ) (ks : List ℕ) → length (stated_from f runs n ks) ≡ length ks
  length_from n [] = refl
  length_from n (k ∷ ks) = ap (λ (m : ℕ). suc m) (length_from (n + 1) ks)

  -- the POU of a number is what the file says of it
  pub stated_at : (n : ℕ) → n < length (called_order f) → get_or (stated_by f runs) n nothing ≡ stated_if f (get_or (called_order f) n 0) (runs n)
  stated_at n low = let same : 0 + n ≡ n = omega arith in from_at 0 (called_order f) n low ∙ ap (λ (i : ℕ). stated_if f (get_or (called_order f) n 0) (runs i)) same

  pub length_stated : length (stated_by f runs) ≡ length (called_order f)
  length_stated = length_from 0 (called_order f)

  -- there are as many as in the whole program
  pub stated_long : length (stated_by f runs) ≡ length (called_by f)
  stated_long = length_stated ∙ sym (length-map (called_order f) (λ k. called_if f k (pou_at f k)))

  abbrev whole : List ℕ → List CalledData
  whole ks = map (λ k. called_if f k (pou_at f k)) ks

  whole_from : (n : ℕ) (ks : List ℕ) (m : ℕ) → runs (n + m) ≡ true → get_or (stated_from f runs n ks) m nothing ≡ get_or (whole ks) m nothing
  whole_from n [] m is = refl
  whole_from n (k ∷ ks) zero is =
      let here : n + 0 ≡ n = omega arith in
      ap (stated_if f k) (subst (λ (i : ℕ). runs i ≡ true) here is)
  whole_from n (k ∷ ks) (suc m) is =
      let there : n + suc m ≡ n + 1 + m = omega arith in
      whole_from (n + 1) ks m (subst (λ (i : ℕ). runs i ≡ true) there is)

  -- one that runs is that of the whole program
  pub stated_whole : (n : ℕ) → runs n ≡ true → get_or (stated_by f runs) n nothing ≡ get_or (called_by f) n nothing
  stated_whole n is = let same : n ≡ 0 + n = omega arith in whole_from 0 (called_order f) n (subst (λ (i : ℕ). runs i ≡ true) same is)
