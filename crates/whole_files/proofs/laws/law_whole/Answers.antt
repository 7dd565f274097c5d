use Rattle.whole_files.proofs.WholeBodies.{no_names}
use Rattle.whole_files.proofs.WholeLaw.{whole_pou}
use Rattle.whole_files.proofs.laws.law_whole.Goals as goal

pub returns : goal.returns
returns c = λ f names levels types k d at. whole_pou f (no_names f names) levels types k d at
