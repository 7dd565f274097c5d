-- What stands on the sink at the end, by the status.
use Rattle.std.specs.Prelude.{◌≡◌, ◌≢◌, ℕ, List, ◌++◌, codes, Option}
use Rattle.outside.specs.Contents.{extended}
use Rattle.command_answers.specs.declared.status.Status.{Status}
use Rattle.command_answers.specs.declared.status.Status.TheVariants.{ReadFault, WriteFault, Memory}
use Rattle.command_answers.specs.Puts.{PutsPart}
use Rattle.command_answers.specs.Reports.{Report}

abbrev pub read_fault_line : List ℕ
read_fault_line = codes "READ FAULT\n"

abbrev pub memory_line : List ℕ
memory_line = codes "MEMORY\n"

-- The texts that a run may come to put: what is asked for; the line on a read that failed; the line on
-- memory that was wanting, at once or behind a front of what is asked for.
pub data MayPut (Wanted : Report → Type 0) (faulted : Type 0) (text : List ℕ) : Type 0 where
  a_report : (r : Report) → Wanted r → text ≡ r.text → MayPut Wanted faulted text
  a_read_fault : faulted → text ≡ read_fault_line → MayPut Wanted faulted text
  no_memory : text ≡ memory_line → MayPut Wanted faulted text
  no_memory_behind : (r : Report) (kept rest : List ℕ) → Wanted r → r.text ≡ kept ++ rest → text ≡ kept ++ memory_line → MayPut Wanted faulted text

-- a front of such a text was put
abbrev pub PutsFront : (Report → Type 0) → Type 0 → Option (List ℕ) → Option (List ℕ) → Type 0
PutsFront Wanted faulted old new = (text : List ℕ) × MayPut Wanted faulted text × PutsPart old new text

-- all of what is asked for was put, and the status is its own
abbrev pub IsExact : (Report → Type 0) → Status → Option (List ℕ) → Option (List ℕ) → Type 0
IsExact Wanted status old new = (r : Report) × Wanted r × (status ≡ r.status) × (new ≡ extended old r.text)

-- how much is put: a front, where the sink or memory gave up; the line on a read that failed; or all of what is asked for
pub data Extent : Type 0 where
  part_put : Extent
  fault_told : Extent
  all_put : Extent

abbrev pub extent_of : Status → Extent
extent_of WriteFault = part_put
extent_of Memory = part_put
extent_of ReadFault = fault_told
extent_of _ = all_put

abbrev pub AnswersSoFar : Extent → (Report → Type 0) → Type 0 → Status → Option (List ℕ) → Option (List ℕ) → Type 0
AnswersSoFar part_put Wanted faulted status old new = PutsFront Wanted faulted old new
AnswersSoFar fault_told Wanted faulted status old new = faulted × (new ≡ extended old read_fault_line)
AnswersSoFar all_put Wanted faulted status old new = IsExact Wanted status old new

-- what was put is as much of what is asked for as the status says
abbrev pub Answers : (Report → Type 0) → Type 0 → Status → Option (List ℕ) → Option (List ℕ) → Type 0
Answers Wanted faulted status old new = AnswersSoFar (extent_of status) Wanted faulted status old new

-- a last text was put, and the run ends with its status, or the sink gave up
pub record HasPut (text : List ℕ) (status result : Status) (old new : Option (List ℕ)) : Type 0 where
  pub whole : result ≢ WriteFault → result ≢ Memory → (result ≡ status) × (new ≡ extended old text)
  pub part : PutsPart old new text
