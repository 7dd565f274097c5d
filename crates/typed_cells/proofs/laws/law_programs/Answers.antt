use Rattle.typed_cells.proofs.TypedPrograms.{program_is_typed}
use Rattle.typed_cells.proofs.laws.law_programs.Goals as goal

pub returns : goal.returns
returns c = λ f runs used ordered whole bodies k p there kind is. program_is_typed f runs used ordered whole bodies k p there kind is
