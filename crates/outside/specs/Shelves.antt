-- What a shelf in memory shows of itself.
use Rattle.std.specs.Prelude.{◌≡◌, ◌≢◌, ◌==◌, if◌then◌else◌, ℕ, List, [], Option, Some}
use Rattle.outside.specs.declared.memory_shelf.MemShelf.{MemShelf}
use Rattle.outside.specs.declared.sure.SureShelf.{SureShelf}
use Rattle.outside.specs.declared.failures.OutsideCall.{OutsideCall}
use Rattle.outside.specs.declared.failures.Failure.{Failure}
use Rattle.outside.specs.Failures.{Schedule, next_failure}
use Rattle.outside.specs.Files.{file_at, bytes_at}

-- the bytes of the file of that name, if there is one
abbrev pub file_of : MemShelf → List ℕ → Option (List ℕ)
file_of shelf name = file_at shelf.files.items name

-- the bytes of a file; one that is absent counts as empty
abbrev pub bytes_of : MemShelf → List ℕ → List ℕ
bytes_of shelf name = bytes_at shelf.files.items name

-- the calls that fail, and how many there were
abbrev pub schedule_of : MemShelf → Schedule
schedule_of shelf = record { failures = shelf.failures.items; counts = shelf.counts }

-- the failure of the next of that call, if it is on the list
abbrev pub failure_ahead : MemShelf → OutsideCall → Option Failure
failure_ahead shelf call = next_failure (schedule_of shelf) call

-- the files but this one stay
abbrev pub OtherFilesStay : MemShelf → MemShelf → List ℕ → Type 0
OtherFilesStay old new name = (other : List ℕ) → other ≢ name → file_of new other ≡ file_of old other

-- what a create that fails leaves of a file: no byte, or all as it was
abbrev pub left_by_create : Failure → Option (List ℕ) → Option (List ℕ)
left_by_create failure file = if failure.kept == 0 then Some [] else file

-- how many reads have faulted
abbrev pub read_faults_of : MemShelf → ℕ
read_faults_of shelf = shelf.read_faults

-- how many creates and appends have faulted
abbrev pub write_faults_of : MemShelf → ℕ
write_faults_of shelf = shelf.write_faults

-- the bytes of a file on a shelf that never faults; one that is absent counts as empty
abbrev pub sure_bytes_of : SureShelf → List ℕ → List ℕ
sure_bytes_of shelf name = bytes_at shelf.files.items name
