use Rattle.front_end.proofs.OneProgram.{one_program, no_program_too, one_refusal}
use Rattle.front_end.proofs.laws.one_acceptance.Goals as goal

pub returns : goal.returns
returns c = record { program = one_program; never_both = no_program_too; refusal = one_refusal }
