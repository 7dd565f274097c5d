-- Faults of reading.
use Rattle.rules.specs.declared.rule.Rule.TheVariants.{NoTree as NoTreeRule}
use Rattle.rules.specs.declared.fault.Fault.{Fault}
use Rattle.rules.specs.declared.fault.Fault.TheVariants.{Refused, Memory}
use Rattle.grammar.specs.declared.fault.Stop.{Stop}
use Rattle.grammar.specs.declared.fault.Stop.TheVariants as stops

-- the fault that a caller sees
abbrev pub fault_of : Stop → Fault
fault_of (stops.NoTree at) = Refused (record { rule = NoTreeRule; at = at })
fault_of stops.Memory = Memory
