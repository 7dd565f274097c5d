use Rattle.std.proofs.Common.{[], refl}
use Rattle.relation_file.proofs.broken.FirstBroken.new.Goals as goal

pub returns : goal.returns
returns c = λ old new end. record { before = []; recalled = c.new-seen.ensures; on_lines = λ rest. refl; on_types = λ rest. refl }
