-- Lines from which notes are taken for a report.
use Rattle.std.specs.Prelude.{◌≡◌, ℕ, ◌+◌, ◌≤◌, ℤ, true, List, [], ◌∷◌, ◌++◌, length, Result, Ok, Err}
use Rattle.std.specs.Option.{option_or}
use Rattle.finding_lines.specs.declared.line.Line.{Line}
use Rattle.finding_lines.specs.declared.line.Line.TheVariants.{Dropping}
use Rattle.finding_lines.specs.Form.{IsLine}
use Rattle.finding_file.specs.declared.errors.ReadErr.{ReadErr}
use Rattle.finding_file.specs.declared.errors.ReadErr.TheVariants.{Fault, Memory, M8, Spelling, Unended}
use Rattle.finding_file.specs.Reading.{Reading, rest_of}
use Rattle.finding_file.specs.Writing.{all_written}
use Rattle.queries.specs.Settings.{Setting}
use Rattle.queries.specs.Sets.{members}
use Rattle.judgement.specs.Steps.{pair_in, row_in}
use Rattle.finding_report.specs.declared.notes.Notes.{Notes}
use Rattle.finding_report.specs.Noted.{left_behind, kept_set, pair_numbers, scan_rows}

-- the scan of a DROP line can be run: its pair is in range, and its row is allowed
abbrev pub CanRun : Setting → List ℤ → Type 0
CanRun s numbers = (s.in_range (pair_in s numbers) ≡ true) × (s.allowed (row_in s numbers) (pair_in s numbers) ≡ true)

abbrev pub HasScan : Setting → Line → Type 0
HasScan s (Dropping numbers) = CanRun s numbers
HasScan s line = Unit {0}

-- each line has its form, and its scan can be run
abbrev pub AreNotable : Setting → List Line → Type 0
AreNotable s [] = Unit {0}
AreNotable s (l ∷ ls) = IsLine l × HasScan s l × AreNotable s ls

-- a file is these lines, within the limit
pub record IsFileOf (s : Setting) (limit : ℕ) (file : List ℕ) (ls : List Line) : Type 0 where
  pub whole : file ≡ all_written ls
  pub within : length (all_written ls) ≤ limit
  pub notable : AreNotable s ls

-- these are the notes of the lines
pub record IsNoted (s : Setting) (ls : List Line) (notes : Notes) : Type 0 where
  pub set : members notes.set ≡ kept_set s ls
  pub pair : notes.pair ≡ pair_numbers ls
  pub scans : notes.scans.items ≡ scan_rows ls

-- a file that is these lines gives their notes; else it failed, or memory did not suffice
abbrev pub IsCollected : Setting → List Line → Result Notes ReadErr → Type 0
IsCollected s ls (Ok notes) = IsNoted s ls notes
IsCollected s ls (Err Fault) = Unit {0}
IsCollected s ls (Err Memory) = Unit {0}
IsCollected s ls (Err M8) = ⊥
IsCollected s ls (Err (Spelling n)) = ⊥
IsCollected s ls (Err (Unended n)) = ⊥

-- So many of the lines were noted, and the rest stands before the reader.
pub record IsNotedTo (s : Setting) (limit : ℕ) (file : List ℕ) (ls : List Line) (reader : Reading) (before : ℕ) (notes : Notes) : Type 0 where
  pub rest : List Line
  pub ahead : rest_of reader file ≡ all_written rest
  pub within : reader.at + length (all_written rest) ≤ limit
  pub notable : AreNotable s rest
  pub many : before ≤ reader.at
  pub set : left_behind s (members notes.set) rest ≡ kept_set s ls
  pub pair : option_or notes.pair (pair_numbers rest) ≡ pair_numbers ls
  pub scans : notes.scans.items ++ scan_rows rest ≡ scan_rows ls
