use Rattle.std.proofs.Common.{◌≡◌}
use Rattle.cdcl_watch.specs.Kept.{Keeps}
use Rattle.cdcl_watch.proofs.watch_search.WatchSearch.go_on.Given as goal

abbrev pub invariant-loop : goal.invariant-loop
invariant-loop l = record {
  kept : Keeps l.fn.self.propagator l.self.propagator;
  count : l.self.count ≡ l.fn.self.count;
}
