use Rattle.std.proofs.Common.{arith}
use Rattle.clause_types.proofs.HashLemmas.{hash_one_more}
use Rattle.clause_types.proofs.path_hashes.first_places.Goals as goal

pub loop-index-preserved : goal.loop-index-preserved
loop-index-preserved c =
    hash_one_more c.args.cells.now c.loop-index.index c.index-cells-index.result c.with_bytes-hash.result c.loop-index.found c.insert.new.self
    (omega arith) (omega arith) c.index-cells-index.is (grind (arith, c.with_bytes-hash.ensures, c.as_bytes.ensures.value)) c.in_ok-insert.ensures.updates c.loop-index.invariant
