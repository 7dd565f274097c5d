-- What is said of texts that are not compared.
use Rattle.std.specs.Prelude.{◌≡◌}
use Rattle.rules.specs.declared.rule.Refusal.{Refusal}
use Rattle.rules.specs.declared.fault.Fault.{Fault}
use Rattle.rules.specs.declared.fault.Fault.TheVariants as faults
use Rattle.command_answers.specs.declared.source.Source.{Source}
use Rattle.command_answers.specs.declared.source.Source.TheVariants.{Relation}
use Rattle.rules.specs.declared.rule.Rule.{Rule}
use Rattle.rules.specs.declared.rule.Rule.TheVariants.{TooManyNodes}
use Rattle.node_end.specs.declared.fault.AcceptFault.{AcceptFault}
use Rattle.node_end.specs.declared.fault.AcceptFault.TheVariants as nodes
use Rattle.comparison_files.specs.declared.fault.CompareFault.{CompareFault}
use Rattle.comparison_files.specs.declared.fault.CompareFault.TheVariants.{Refused, TooLarge, Memory}

-- a fact of a refusal, and one of a limit
abbrev pub IfFault : (Source → Refusal → Type 0) → (Source → Rule → Type 0) → CompareFault → Type 0
IfFault P Q (Refused file r) = P file r
IfFault P Q (TooLarge file l) = Q file l
IfFault P Q Memory = Unit {0}

-- it is of this file, and a fact of it
abbrev pub IfFaultOf : Source → (Refusal → Type 0) → (Rule → Type 0) → CompareFault → Type 0
IfFaultOf source P Q (Refused file r) = (file ≡ source) × P r
IfFaultOf source P Q (TooLarge file l) = (file ≡ source) × Q l
IfFaultOf source P Q Memory = Unit {0}

-- a fault of a program's text as one of a file
abbrev pub program_fault : Source → AcceptFault → CompareFault
program_fault source (nodes.Refused r) = Refused source r
program_fault source nodes.TooManyNodes = TooLarge source TooManyNodes
program_fault source nodes.Memory = Memory

-- a fault of REL's text
abbrev pub relation_fault : Fault → CompareFault
relation_fault (faults.Refused r) = Refused Relation r
relation_fault faults.Memory = Memory
