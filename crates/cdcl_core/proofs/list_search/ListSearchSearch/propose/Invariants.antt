use Rattle.std.proofs.Common.{◌≡◌}
use Rattle.cdcl_core.proofs.list_search.ListSearchSearch.propose.Given as goal

abbrev pub invariant-loop : goal.invariant-loop
invariant-loop l = l.self.places ≡ l.initial.self.places
