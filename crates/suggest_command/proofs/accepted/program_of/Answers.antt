use Rattle.command_files.specs.front_end.Texts.{StatesNoProgram}
use Rattle.suggest_command.proofs.Refusals.{fault_refused}
use Rattle.suggest_command.proofs.accepted.program_of.Goals as goal

pub returns-in-Err-clause-refused : goal.returns-in-Err-clause-refused
returns-in-Err-clause-refused c = rw c.fault_of.ensures (fault_refused c.args.source (StatesNoProgram c.args.text.now) c.in-Err.fault c.in-Err.ensures.refused)
