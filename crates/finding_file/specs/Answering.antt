-- What a reader answers.
use Rattle.std.specs.Prelude.{◌≡◌, ◌≢◌, ℕ, ◌+◌, ◌<◌, ◌≤◌, List, Option, Some, None, Result, Ok, Err}
use Rattle.finding_lines.specs.declared.line.Line.{Line}
use Rattle.finding_lines.specs.Spelling.{spelled}
use Rattle.finding_lines.specs.Form.{IsLine}
use Rattle.finding_file.specs.declared.errors.ReadErr.{ReadErr}
use Rattle.finding_file.specs.declared.errors.ReadErr.TheVariants.{Fault, Memory, M8, Spelling, Unended}
use Rattle.finding_file.specs.Ahead.{Ahead, nothing, ended, unended, size}
use Rattle.finding_file.specs.Reading.{Reading}

-- the next line ends within the limit
abbrev pub EndsWithin : Reading → Ahead → Type 0
EndsWithin r a = r.at + size a ≤ r.limit

-- no line is spelled so
abbrev pub IsNoSpelling : List ℕ → Type 0
IsNoSpelling text = (l : Line) → IsLine l → text ≢ spelled l

-- the answer to what stands ahead
abbrev pub IsAnswer : Reading → Ahead → Result (Option Line) ReadErr → Type 0
IsAnswer r a (Ok None) = EndsWithin r a × (a ≡ nothing)
IsAnswer r a (Ok (Some line)) = EndsWithin r a × IsLine line × ((rest : List ℕ) × (a ≡ ended (spelled line) rest))
IsAnswer r a (Err (Spelling n)) = EndsWithin r a × (n ≡ r.number) × ((text : List ℕ) × (rest : List ℕ) × (a ≡ ended text rest) × IsNoSpelling text)
IsAnswer r a (Err (Unended n)) = EndsWithin r a × (n ≡ r.number) × ((text : List ℕ) × (a ≡ unended text))
IsAnswer r a (Err M8) = r.limit < r.at + size a
IsAnswer r a (Err Fault) = Unit {0}
IsAnswer r a (Err Memory) = Unit {0}
