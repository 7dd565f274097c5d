use Rattle.typed_files.proofs.SeenNames.{body_used}
use Rattle.whole_files.proofs.WholeBodies.{no_names}
use Rattle.typed_files.proofs.laws.law_uses.Goals as goal

pub returns : goal.returns
returns c = λ f names levels k d at. body_used f (no_names f names) levels k d at
