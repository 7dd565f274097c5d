use Rattle.relation_file.proofs.OneRelation.{relation_once, no_relation_too, relation_refused_once}
use Rattle.relation_file.proofs.laws.one_relation.Goals as goal

pub returns : goal.returns
returns c = record {
  relation = λ old new end ts us x y e h k. relation_once old new end ts us e x y h k;
  never_both = λ old new end ts us x r e h k. no_relation_too old new end ts us e x r h k;
  refusal = λ old new end ts us r s e h k. relation_refused_once old new end ts us e r s h k;
}
