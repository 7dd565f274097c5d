-- The names of the files of the generator.
use Rattle.std.specs.Prelude.{◌≡◌, ℕ, List, ◌++◌, codes, decimal, string_bytes}
use Rattle.generated_texts.specs.declared.names.FileNames.{FileNames}

abbrev pub file_name : ℕ → List ℕ → List ℕ
file_name count ending = codes "gen" ++ decimal count ++ ending

abbrev pub old_name : ℕ → List ℕ
old_name count = file_name count (codes ".old")

abbrev pub new_name : ℕ → List ℕ
new_name count = file_name count (codes ".new")

abbrev pub relation_name : ℕ → List ℕ
relation_name count = file_name count (codes ".rel")

abbrev pub finding_name : ℕ → List ℕ
finding_name count = file_name count (codes ".fnd")

pub record AreFileNames (count : ℕ) (names : FileNames) : Type 0 where
  pub old : string_bytes names.old ≡ old_name count
  pub new : string_bytes names.new ≡ new_name count
  pub relation : string_bytes names.relation ≡ relation_name count
  pub finding : string_bytes names.finding ≡ finding_name count
