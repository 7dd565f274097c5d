-- What is said of texts that are not accepted.
use Rattle.std.specs.Prelude.{◌≡◌}
use Rattle.rules.specs.declared.fault.Fault.{Fault}
use Rattle.rules.specs.declared.fault.Fault.TheVariants as faults
use Rattle.rules.specs.declared.rule.Refusal.{Refusal}
use Rattle.command_answers.specs.declared.source.Source.{Source}
use Rattle.command_files.specs.declared.refusal.AcceptError.{AcceptError}
use Rattle.command_files.specs.declared.refusal.AcceptError.TheVariants.{Refused, Memory}

-- a fact of a refusal
abbrev pub IfRefused : (Source → Refusal → Type 0) → AcceptError → Type 0
IfRefused P (Refused file r) = P file r
IfRefused P Memory = Unit {0}

-- a refusal is of this file, and a fact of it
abbrev pub IfRefusedOf : Source → (Refusal → Type 0) → AcceptError → Type 0
IfRefusedOf source P (Refused file r) = (file ≡ source) × P r
IfRefusedOf source P Memory = Unit {0}

-- a fault of a text as one of a file
abbrev pub fault_of : Source → Fault → AcceptError
fault_of source (faults.Refused r) = Refused source r
fault_of source faults.Memory = Memory
