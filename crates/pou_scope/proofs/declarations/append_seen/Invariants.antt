use Rattle.std.proofs.Common.{◌≡◌, ◌++◌, map, drop}
use Rattle.naming.specs.ScopeView.{seen_view}
use Rattle.pou_scope.specs.AllSeen.{blocks_seen}
use Rattle.pou_scope.proofs.declarations.append_seen.Given as goal

abbrev pub invariant-loop-seen : goal.invariant-loop-seen
invariant-loop-seen l = l.blocks.items ++ blocks_seen (map seen_view (drop l.seen-index l.all)) ≡ l.fn.blocks.items ++ blocks_seen (map seen_view l.all)
