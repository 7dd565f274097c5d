use Rattle.std.proofs.Common.{◌≡◌, drop}
use Rattle.source_tree.specs.SyntaxView.{names_view}
use Rattle.typing.specs.Programs.{joined}
use Rattle.clause_types.specs.PathHashes.{with_bytes, hash_of}
use Rattle.clause_types.proofs.SideLemmas.{behind_points}
use Rattle.clause_types.proofs.path_hashes.joined_hash.Given as goal

abbrev pub invariant-loop-member : goal.invariant-loop-member
invariant-loop-member l = with_bytes l.hash (behind_points (names_view (drop l.member-index l.others))) ≡ hash_of (joined (names_view l.members))
