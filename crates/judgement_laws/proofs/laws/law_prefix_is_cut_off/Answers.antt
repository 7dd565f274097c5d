use Rattle.judgement_laws.proofs.PrefixLemmas.{prefix_is_cut_off}
use Rattle.judgement_laws.proofs.laws.law_prefix_is_cut_off.Goals as goal

pub returns : goal.returns
returns c = prefix_is_cut_off
