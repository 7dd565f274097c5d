use Rattle.alike_scopes.proofs.bound_names.UsedBlocks.{all_ordered}
use Rattle.whole_files.proofs.WholeBodies.{no_names}
use Rattle.whole_files.proofs.laws.law_all_ordered.Goals as goal

pub returns : goal.returns
returns c = λ f names. all_ordered f (no_names f names) names
