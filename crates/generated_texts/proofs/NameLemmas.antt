-- The names of the files differ.
use Rattle.std.proofs.Common.{◌≡◌, ◌≢◌, ◌∙◌, ℕ, Bool, true, false, List, ◌++◌, codes, decimal, bytes_eq, refl, sym}
use Rattle.std.proofs.lemmas.List.{append_cancel_left}
use Rattle.std.proofs.lemmas.Slice.Eq.{bytes_eq-Decides}
use Rattle.generated_texts.specs.Names.{file_name, old_name, new_name, relation_name, finding_name}

-- names with the same number are equal where their endings are
same_ending : (count : ℕ) (a b : List ℕ) → file_name count a ≡ file_name count b → a ≡ b
same_ending count a b e = append_cancel_left (decimal count) a b (append_cancel_left (codes "gen") (decimal count ++ a) (decimal count ++ b) e)

differ : (count : ℕ) (a b : List ℕ) → bytes_eq a b ≡ false → file_name count a ≢ file_name count b
differ count a b d e = let k : false ≡ true = sym d ∙ (bytes_eq-Decides a b).1 (same_ending count a b e) in cc

pub old_is_not_new : (count : ℕ) → old_name count ≢ new_name count
old_is_not_new count = differ count (codes ".old") (codes ".new") refl

pub old_is_not_relation : (count : ℕ) → old_name count ≢ relation_name count
old_is_not_relation count = differ count (codes ".old") (codes ".rel") refl

pub new_is_not_relation : (count : ℕ) → new_name count ≢ relation_name count
new_is_not_relation count = differ count (codes ".new") (codes ".rel") refl

pub old_is_not_finding : (count : ℕ) → old_name count ≢ finding_name count
old_is_not_finding count = differ count (codes ".old") (codes ".fnd") refl

pub new_is_not_finding : (count : ℕ) → new_name count ≢ finding_name count
new_is_not_finding count = differ count (codes ".new") (codes ".fnd") refl

pub relation_is_not_finding : (count : ℕ) → relation_name count ≢ finding_name count
relation_is_not_finding count = differ count (codes ".rel") (codes ".fnd") refl
