use Rattle.typed_files.proofs.TypedFiles.{program_typed}
use Rattle.typed_files.proofs.laws.law_typed.Goals as goal

pub returns : goal.returns
returns c = program_typed
