use Rattle.std.proofs.Common.{arith}
use Rattle.candidates.proofs.NameLemmas.{has_one_more}
use Rattle.candidates.proofs.places.names.Goals as goal

pub loop-index-preserved : goal.loop-index-preserved
loop-index-preserved c =
    has_one_more c.args.list.now c.loop-index.index c.as_str.result c.index-list-index.result c.loop-index.set c.insert.new.self (omega arith) (omega arith) c.index-list-index.is c.as_str.ensures.value c.in_ok-insert.ensures.updates c.loop-index.invariant
