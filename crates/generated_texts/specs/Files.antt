-- The files of the three texts with so many inputs, by what is told of all files before and after, and by how often writes of each have failed.
use Rattle.std.specs.Prelude.{◌≡◌, ◌≢◌, ◌⊎◌, ℕ, List, ◌++◌, Option, IfSome}
use Rattle.outside.specs.Causes.{Rose}
use Rattle.generated_texts.specs.Names.{old_name, new_name, relation_name}
use Rattle.generated_texts.specs.Texts.{old_text, new_text, relation_text}

-- a file holds a text, where it is told
abbrev pub HoldsText : Option (List ℕ) → List ℕ → Type 0
HoldsText file text = IfSome file (λ bytes. bytes ≡ text)

-- a file is as before, or a front of a text, where it is told
pub data LeavesText (before after : Option (List ℕ)) (text : List ℕ) : Type 0 where
  as_before : after ≡ before → LeavesText before after text
  a_front : IfSome after (λ bytes. (rest : List ℕ) × (text ≡ bytes ++ rest)) → LeavesText before after text

pub record HoldTexts (count : ℕ) (file : List ℕ → Option (List ℕ)) : Type 0 where
  pub old : HoldsText (file (old_name count)) (old_text count)
  pub new : HoldsText (file (new_name count)) (new_text count)
  pub relation : HoldsText (file (relation_name count)) (relation_text count)

pub record LeaveTexts (count : ℕ) (before after : List ℕ → Option (List ℕ)) : Type 0 where
  pub old : LeavesText (before (old_name count)) (after (old_name count)) (old_text count)
  pub new : LeavesText (before (new_name count)) (after (new_name count)) (new_text count)
  pub relation : LeavesText (before (relation_name count)) (after (relation_name count)) (relation_text count)

-- all other files stay
abbrev pub OtherFilesStay : ℕ → (List ℕ → Option (List ℕ)) → (List ℕ → Option (List ℕ)) → Type 0
OtherFilesStay count before after = (other : List ℕ) → other ≢ old_name count → other ≢ new_name count → other ≢ relation_name count → after other ≡ before other

-- a write of one of these files has failed
abbrev pub OneTextFailed : ℕ → (List ℕ → ℕ) → (List ℕ → ℕ) → Type 0
OneTextFailed count before now = Rose (before (old_name count)) (now (old_name count)) ⊎ Rose (before (new_name count)) (now (new_name count)) ⊎ Rose (before (relation_name count)) (now (relation_name count))
