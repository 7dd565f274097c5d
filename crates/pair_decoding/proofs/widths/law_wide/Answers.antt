use Rattle.pair_decoding.proofs.FreeWords.{product_wide, breaks_wide}
use Rattle.pair_decoding.proofs.widths.law_wide.Goals as law

pub returns-clause-product : law.returns-clause-product
returns-clause-product g = product_wide

pub returns-clause-breaks : law.returns-clause-breaks
returns-clause-breaks g = breaks_wide
