-- What a command asks for that reads four files and writes none.
use Rattle.std.specs.Prelude.{◌≡◌, ℕ, List}
use Rattle.command_answers.specs.Reports.{Report}
use Rattle.command_answers.specs.Ends.{Asking}
use Rattle.command_files.specs.Texts.{Texts, AreFourTold, OneOfFourRose}

-- by what is reported on the texts, the names of the files, and the text of the fourth
abbrev pub asking_to_read : (Texts → Report → Type 0) → (old new rel fourth : List ℕ) → (Texts → List ℕ) → Asking Texts
asking_to_read Reports old new rel fourth text = record {
  Tells = λ shelf t. AreFourTold shelf.file old new rel fourth t (text t);
  Reports = λ k t r. Reports t r;
  ReadRose = λ k. OneOfFourRose k.before.read_faults k.after.read_faults old new rel fourth;
  WriteRose = λ k. ⊥;
  Keeps = λ k. k.after.file ≡ k.before.file;
  Leaves = λ k t. Unit {0};
}
