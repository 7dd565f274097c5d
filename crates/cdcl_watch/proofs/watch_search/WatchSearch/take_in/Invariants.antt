use Rattle.std.proofs.Common.{◌≡◌, length, take}
use Rattle.cdcl_watch.proofs.Taken.{Leaves}
use Rattle.cdcl_watch.proofs.watch_search.WatchSearch.take_in.Given as goal

abbrev pub invariant-loop-place : goal.invariant-loop-place
invariant-loop-place l = record {
  leaves : Leaves l.self.propagator (take l.place l.held);
  size : length l.self.propagator.values ≡ length l.fn.self.propagator.values;
}
