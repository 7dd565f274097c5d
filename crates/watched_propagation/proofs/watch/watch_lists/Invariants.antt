use Rattle.std.proofs.Common.{◌≡◌, [], replicate}
use Rattle.watched_propagation.proofs.watch.watch_lists.Given as goal

abbrev pub invariant-loop-made : goal.invariant-loop-made
invariant-loop-made l = l.lists.items ≡ replicate l._made []
