-- What the words ask for, by the files that they name.
use Rattle.std.specs.Prelude.{◌≡◌, ℕ, Bool, false, not, ◌||◌, List, map, Option, is_some, unwrap_or, if◌then◌else◌, String, string_bytes}
use Rattle.std.specs.Str.{bytes_eq}
use Rattle.outside.specs.States.{Change}
use Rattle.command_line.specs.Asked.{Asked, asked, check, explain, gen, replay, verify, usage}
use Rattle.command_line.specs.Counts.{count_of}
use Rattle.command_answers.specs.declared.status.Status.{Status}
use Rattle.command_answers.specs.Reports.{usage_report}
use Rattle.command_answers.specs.Ends.{Asking}
use Rattle.finding_commands.specs.Texts.{Texts}
use Rattle.finding_commands.specs.Checks.{asking_to_check, ShowsValid}
use Rattle.finding_commands.specs.Explanations.{asking_to_explain, ShowsExplained}
use Rattle.replay_command.specs.Reports.{asking_to_replay}
use Rattle.gen_command.specs.Reports.{asking_to_generate, ShowsMade}
use Rattle.gen_command.specs.verify_command.Reports.{asking_to_verify, ShowsSaved}

-- what clap takes, and is no command even so: `verify` would write one of the files that it reads, or the word of `gen` is no number from 1 to 341
abbrev pub is_refused : Asked → Bool
is_refused (verify old new rel finding) = bytes_eq finding old || (bytes_eq finding new || bytes_eq finding rel)
is_refused (gen count) = not (is_some (count_of count))
is_refused _ = false

-- and this is refused as a command line that there is not
abbrev pub settled : Asked → Asked
settled a = if is_refused a then usage else a

-- what the words of a command line ask for
abbrev pub asked_in : {A : Type 0} → List (String A) → Asked
asked_in words = settled (asked (map string_bytes words))

-- the number that a word spells, and 0 where it spells none
abbrev pub number : List ℕ → ℕ
number word = unwrap_or (count_of word) 0

-- how the program is used: no file is read or written
abbrev pub asking_for_usage : Asking Texts
asking_for_usage = record {
  Tells = λ shelf t. Unit {0};
  Reports = λ k t r. r ≡ usage_report;
  ReadRose = λ k. ⊥;
  WriteRose = λ k. ⊥;
  Keeps = λ k. k.after.file ≡ k.before.file;
  Leaves = λ k t. Unit {0};
}

-- what each command asks for
abbrev pub asking : Asked → Asking Texts
asking (check old new rel finding) = asking_to_check old new rel finding
asking (explain old new rel finding) = asking_to_explain old new rel finding
asking (replay old new rel trace) = asking_to_replay old new rel trace
asking (verify old new rel finding) = asking_to_verify old new rel finding
asking (gen count) = asking_to_generate (number count)
asking usage = asking_for_usage

-- the status of VALID comes from `check` and `explain` alone, and there the verdict is shown, and by `check` the reach
abbrev pub IsShownBy : Asked → Texts → Option (List ℕ) → Option (List ℕ) → Type 0
IsShownBy (check old new rel finding) t before now = ShowsValid t before now
IsShownBy (explain old new rel finding) t before now = ShowsExplained t before now
IsShownBy _ t before now = ⊥

-- a verdict comes from `verify` and `gen` alone, and there its finding is saved, with what it says of reach
abbrev pub IsSavedBy : Change → Asked → Texts → Status → Option (List ℕ) → Option (List ℕ) → Type 0
IsSavedBy k (verify old new rel finding) t status before now = ShowsSaved t k finding status before now
IsSavedBy k (gen count) t status before now = ShowsMade (number count) k status before now
IsSavedBy k _ t status before now = ⊥
