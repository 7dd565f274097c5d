use Rattle.std.proofs.Common.{◌≡◌, drop}
use Rattle.clause_types.specs.PathHashes.{with_bytes}
use Rattle.clause_types.proofs.path_hashes.with_bytes.Given as goal

abbrev pub invariant-loop-byte : goal.invariant-loop-byte
invariant-loop-byte l = with_bytes l.whole (drop l.byte-index l.bytes) ≡ with_bytes l.hash l.bytes
