use Rattle.std.proofs.Common.{arith}
use Rattle.std.proofs.lemmas.Grind.{text_groups}
use Rattle.sfc_shape.proofs.associations.keep_by_name.Goals as goal

pub returns : goal.returns
returns c = λ text. grind (arith, text_groups)
