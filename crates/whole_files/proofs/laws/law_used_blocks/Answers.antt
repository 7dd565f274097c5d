use Rattle.alike_scopes.proofs.bound_names.UsedBlocks.{used_blocks}
use Rattle.whole_files.proofs.WholeBodies.{no_names}
use Rattle.whole_files.proofs.laws.law_used_blocks.Goals as goal

pub returns : goal.returns
returns c = λ f names k. used_blocks f (no_names f names) k
