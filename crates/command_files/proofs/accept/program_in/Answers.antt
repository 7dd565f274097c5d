use Rattle.std.proofs.Common.{◌≡◌, ◌∙◌, subst}
use Rattle.front_end.specs.Texts.{StatesNoProgram}
use Rattle.command_files.specs.Refused.{IfRefusedOf}
use Rattle.command_files.proofs.Refusals.{program_refused}
use Rattle.command_files.proofs.accept.program_in.Goals as goal

pub returns-in-Err-clause-refused : goal.returns-in-Err-clause-refused
returns-in-Err-clause-refused c = λ bytes kept.
    let held = rw c.in-Some.is at kept in
    let same : c.deref.result.now ≡ bytes = c.deref.ensures.value ∙ held.0 in
    subst (λ b. IfRefusedOf c.args.source (StatesNoProgram b) c.fault_of.result) same
    (rw c.fault_of.ensures (program_refused c.args.source c.deref.result.now c.in-Err.fault c.in-Err.ensures.refused))
