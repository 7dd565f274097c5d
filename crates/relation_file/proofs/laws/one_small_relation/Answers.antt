use Rattle.relation_file.proofs.OneRelation.{no_small_relation_too, small_refused_once}
use Rattle.relation_file.proofs.laws.one_small_relation.Goals as goal

pub returns : goal.returns
returns c = record {
  never_both = λ old new end ts us x r e h few k. no_small_relation_too old new end ts us e x r h few k;
  refusal = λ old new end ts us r s e h k. small_refused_once old new end ts us e r s h k;
}
