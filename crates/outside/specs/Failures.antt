-- Which calls fail, and how many calls there were.
use Rattle.std.specs.Prelude.{ℕ, ◌+◌, ◌-◌, ◌^◌, min, List, [], ◌∷◌, Bool, true, false, ◌&&◌, ◌==◌, if◌then◌else◌, Option, Some, None, IsNone, IsSome, Result, Ok, Err, IsErrOf, OnOk}
use Rattle.outside.specs.declared.failures.Failure.{Failure}
use Rattle.outside.specs.declared.failures.CallCounts.{CallCounts}
use Rattle.outside.specs.declared.failures.OutsideCall.{OutsideCall}
use Rattle.outside.specs.declared.failures.OutsideCall.TheVariants.{Read, Create, Append, Put}
use Rattle.outside.specs.declared.OutErr.{OutErr}
use Rattle.outside.specs.declared.OutErr.TheVariants.{Fault, Memory}

-- whether two calls do the same
abbrev pub is_same_call : OutsideCall → OutsideCall → Bool
is_same_call Read Read = true
is_same_call Create Create = true
is_same_call Append Append = true
is_same_call Put Put = true
is_same_call _ _ = false

-- the failure of that call, if it is on the list: the first one there
abbrev pub failure_of : List Failure → OutsideCall → ℕ → Option Failure
failure_of [] call number = None
failure_of (failure ∷ failures) call number = if is_same_call failure.call call && failure.number == number then Some failure else failure_of failures call number

-- the next number of a count that stands still at its type's end
abbrev pub next_of : ℕ → ℕ
next_of count = min (count + 1) (2 ^ 64 - 1)

-- how many there were of that call
abbrev pub count_of : OutsideCall → CallCounts → ℕ
count_of Read counts = counts.reads
count_of Create counts = counts.creates
count_of Append counts = counts.appends
count_of Put counts = counts.puts

-- the counts after one more of that call
abbrev pub counted : OutsideCall → CallCounts → CallCounts
counted Read counts = record counts { reads = next_of counts.reads }
counted Create counts = record counts { creates = next_of counts.creates }
counted Append counts = record counts { appends = next_of counts.appends }
counted Put counts = record counts { puts = next_of counts.puts }

-- the calls that fail, and how many calls there were
pub record Schedule : Type 0 where
  pub failures : List Failure
  pub counts : CallCounts

-- the schedule before the first call
abbrev pub schedule_at_start : List Failure → Schedule
schedule_at_start failures = record { failures = failures; counts = record { reads = 0; creates = 0; appends = 0; puts = 0 } }

-- the failure of the next of that call, if it is on the list
abbrev pub next_failure : Schedule → OutsideCall → Option Failure
next_failure schedule call = failure_of schedule.failures call (next_of (count_of call schedule.counts))

-- the schedule after one more of that call
abbrev pub after_call : Schedule → OutsideCall → Schedule
after_call schedule call = record { failures = schedule.failures; counts = counted call schedule.counts }

-- a call faults exactly where it is on the list, unless memory wants
pub record FailsAsListed {T : Type 0} (failure : Option Failure) (result : Result T OutErr) : Type 0 where
  pub listed : IsErrOf result Fault → IsSome failure
  pub unlisted : OnOk result (IsNone failure)

-- a count of faults after a call
abbrev pub faults_after : {T : Type 0} → ℕ → Result T OutErr → ℕ
faults_after faults (Ok value) = faults
faults_after faults (Err Fault) = next_of faults
faults_after faults (Err Memory) = faults
