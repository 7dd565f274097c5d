use Rattle.std.proofs.Common.{arith}
use Rattle.clause_types.proofs.ValueLemmas.{one_more_type}
use Rattle.clause_types.proofs.enumeration_values.values.Goals as goal

pub loop-kind-preserved : goal.loop-kind-preserved
loop-kind-preserved c =
    one_more_type c.args.types.now c.loop-kind.kind c.index-types-kind.result c.deref.result.now c.loop-kind.found c.in_ok-found.found
    (omega arith) (omega arith) c.index-types-kind.is c.deref.ensures.value c.in_ok-found.ensures c.loop-kind.invariant
