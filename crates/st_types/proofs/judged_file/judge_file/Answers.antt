use Rattle.decl_types.specs.Bodies.{file_in}
use Rattle.typing_laws.proofs.DeclaredLemmas.{first_of_file}
use Rattle.st_types.proofs.judged_file.judge_file.Goals as goal

pub returns : goal.returns
returns c = first_of_file (file_in c.args.pous.now.domains) c.judge_types-types.result c.in_ok-judged.judged c.judge_types-types.ensures c.in_ok-judged.ensures
