-- Faults of passes.
use Rattle.rules.specs.declared.rule.Refusal.{Refusal}
use Rattle.rules.specs.declared.fault.Fault.{Fault}
use Rattle.rules.specs.declared.fault.Fault.TheVariants.{Refused, Memory}

-- a fact of a refusal; want of memory owes none
abbrev pub IfRefused : (Refusal → Type 0) → Fault → Type 0
IfRefused P (Refused r) = P r
IfRefused P Memory = Unit {0}
