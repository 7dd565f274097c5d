use Rattle.std.proofs.Common.{◌≡◌}
use Rattle.cdcl_core.proofs.list_search.ListSearch.go_back.Given as goal

abbrev pub invariant-loop-place : goal.invariant-loop-place
invariant-loop-place l = l.self.places ≡ l.initial.self.places
