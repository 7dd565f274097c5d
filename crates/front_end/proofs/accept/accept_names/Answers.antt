use Rattle.std.proofs.Common.{List, ℕ, sym, subst}
use Rattle.std.specs.Prelude.{IfOk, IfErr}
use Rattle.source_tree.specs.Syntax.{FileData}
use Rattle.program_tree.specs.View.{program_view}
use Rattle.typed_programs.specs.Programs.{IsTypedProgram}
use Rattle.rules.specs.declared.fault.Fault.{Fault}
use Rattle.program_tree.specs.declared.typed.Program.{Program}
use Rattle.rules.specs.Faults.{IfRefused}
use Rattle.front_end.specs.Texts.{HasFile, AreNamesSound, StatesProgram, StatesNoProgram}
use Rattle.front_end.proofs.accept.accept_names.Goals as goal

pub program_of-requires : goal.program_of-requires
program_of-requires c = subst AreNamesSound (sym c.in_ok-checked.ensures.file) c.requires

pub returns-clause-program : goal.returns-clause-program
returns-clause-program c =
    subst (λ (f : FileData). IfOk c.program_of.result (λ (p : Program). (text : List ℕ) → HasFile text f → StatesProgram text (program_view p))) c.in_ok-checked.ensures.file c.program_of.ensures.program

pub returns-clause-typed : goal.returns-clause-typed
returns-clause-typed c =
    subst (λ (f : FileData). IfOk c.program_of.result (λ (p : Program). (text : List ℕ) → HasFile text f → IsTypedProgram (program_view p))) c.in_ok-checked.ensures.file c.program_of.ensures.typed

pub returns-clause-refused : goal.returns-clause-refused
returns-clause-refused c =
    subst (λ (f : FileData). IfErr c.program_of.result (λ (e : Fault). (text : List ℕ) → HasFile text f → IfRefused (StatesNoProgram text) e)) c.in_ok-checked.ensures.file c.program_of.ensures.refused
