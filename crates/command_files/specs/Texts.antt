-- The texts of the files that a command names, and what a shelf tells of them.
use Rattle.std.specs.Prelude.{◌≡◌, ◌⊎◌, ℕ, List, Option, Some}
use Rattle.outside.specs.Causes.{Rose}

-- each file by its part in a command; no command has them all
pub record Texts : Type 0 where
  pub old : List ℕ
  pub new : List ℕ
  pub rel : List ℕ
  pub trace : List ℕ
  pub finding : List ℕ

-- the shelf tells these texts of OLD, NEW and REL
pub record AreThreeTold (file : List ℕ → Option (List ℕ)) (old new rel : List ℕ) (t : Texts) : Type 0 where
  pub old_told : file old ≡ Some t.old
  pub new_told : file new ≡ Some t.new
  pub rel_told : file rel ≡ Some t.rel

-- and this one of a fourth file
pub record AreFourTold (file : List ℕ → Option (List ℕ)) (old new rel fourth : List ℕ) (t : Texts) (text : List ℕ) : Type 0 where
  pub three_told : AreThreeTold file old new rel t
  pub fourth_told : file fourth ≡ Some text

-- the count of one of these files rose
abbrev pub OneOfThreeRose : (List ℕ → ℕ) → (List ℕ → ℕ) → List ℕ → List ℕ → List ℕ → Type 0
OneOfThreeRose before now old new rel = Rose (before old) (now old) ⊎ Rose (before new) (now new) ⊎ Rose (before rel) (now rel)

abbrev pub OneOfFourRose : (List ℕ → ℕ) → (List ℕ → ℕ) → List ℕ → List ℕ → List ℕ → List ℕ → Type 0
OneOfFourRose before now old new rel fourth = OneOfThreeRose before now old new rel ⊎ Rose (before fourth) (now fourth)
