use Rattle.found_cells.proofs.Paths.{program_distinct, each_once}
use Rattle.found_cells.proofs.laws.law_paths_once.Goals as goal

pub returns : goal.returns
returns c = λ f once no_points k p there as_program. program_distinct f (each_once f once) no_points k p there as_program (once k p there)
