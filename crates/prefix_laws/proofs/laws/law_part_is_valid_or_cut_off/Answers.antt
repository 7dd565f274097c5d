use Rattle.prefix_laws.proofs.PartLemmas.{part_is_valid_or_cut_off}
use Rattle.prefix_laws.proofs.laws.law_part_is_valid_or_cut_off.Goals as goal

pub returns : goal.returns
returns c = part_is_valid_or_cut_off
