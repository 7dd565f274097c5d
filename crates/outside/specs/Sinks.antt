-- What a sink in memory shows of itself.
use Rattle.std.specs.Prelude.{ℕ, List, Option}
use Rattle.outside.specs.declared.memory_sink.MemSink.{MemSink}
use Rattle.outside.specs.declared.failures.OutsideCall.TheVariants.{Put}
use Rattle.outside.specs.declared.failures.Failure.{Failure}
use Rattle.outside.specs.declared.sure.SureSink.{SureSink}
use Rattle.outside.specs.Failures.{Schedule, next_failure}

-- the bytes that were taken
abbrev pub taken_by : MemSink → List ℕ
taken_by sink = sink.bytes.items

-- the calls that fail, and how many there were
abbrev pub schedule_of : MemSink → Schedule
schedule_of sink = record { failures = sink.failures.items; counts = sink.counts }

-- the failure of the next put, if it is on the list
abbrev pub failure_ahead : MemSink → Option Failure
failure_ahead sink = next_failure (schedule_of sink) Put

-- how many puts have faulted
abbrev pub faults_of : MemSink → ℕ
faults_of sink = sink.faults

-- the bytes that a sink which never faults has taken
abbrev pub sure_taken_by : SureSink → List ℕ
sure_taken_by sink = sink.bytes.items
