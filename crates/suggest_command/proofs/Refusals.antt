-- The rule that the first of three texts breaks that breaks one.
use Rattle.std.proofs.Common.{ℕ, List, refl}
use Rattle.rules.specs.declared.fault.Fault.{Fault}
use Rattle.rules.specs.declared.fault.Fault.TheVariants as faults
use Rattle.rules.specs.declared.rule.Refusal.{Refusal}
use Rattle.rules.specs.Faults as of_rules
use Rattle.program_tree.specs.Tree.{ProgramData}
use Rattle.command_files.specs.front_end.Texts.{StatesProgram, StatesNoProgram}
use Rattle.command_answers.specs.declared.source.Source.{Source}
use Rattle.command_answers.specs.declared.source.Source.TheVariants.{Old, New, Relation}
use Rattle.command_files.specs.declared.refusal.AcceptError.{AcceptError}
use Rattle.command_files.specs.declared.refusal.AcceptError.TheVariants.{Refused, Memory}
use Rattle.command_files.specs.Refused.{IfRefused, IfRefusedOf, fault_of}
use Rattle.command_files.specs.Stating.{StatesNoRelation}
use Rattle.suggest_command.specs.Suggested.{IsRefusedFor, by_old, by_new, by_relation}

pub fault_refused : (source : Source) (P : Refusal → Type 0) (fault : Fault) → of_rules.IfRefused P fault → IfRefusedOf source P (fault_of source fault)
fault_refused source P (faults.Refused r) h = (refl, h)
fault_refused source P faults.Memory h = tt

pub at_old : (o n t : List ℕ) (e : AcceptError) → IfRefusedOf Old (StatesNoProgram o) e → IfRefused (IsRefusedFor o n t) e
at_old o n t (Refused file r) h = by_old h.0 h.1
at_old o n t Memory h = tt

pub at_new : (o n t : List ℕ) (old : ProgramData) (e : AcceptError) → StatesProgram o old → IfRefusedOf New (StatesNoProgram n) e → IfRefused (IsRefusedFor o n t) e
at_new o n t old (Refused file r) is h = by_new old is h.0 h.1
at_new o n t old Memory is h = tt

pub at_relation : (o n t : List ℕ) (old new : ProgramData) (fault : Fault) → StatesProgram o old → StatesProgram n new → of_rules.IfRefused (StatesNoRelation old new t) fault
    → IfRefused (IsRefusedFor o n t) (fault_of Relation fault)
at_relation o n t old new (faults.Refused r) old_is new_is h = by_relation old new old_is new_is refl h
at_relation o n t old new faults.Memory old_is new_is h = tt
