use Rattle.std.proofs.Common.{◌≡◌, ◌+◌, drop}
use Rattle.clause_core.specs.Clauses.{place_in}
use Rattle.clause_core.proofs.clause.Clause.place_for.Given as goal

abbrev pub invariant-loop-other : goal.invariant-loop-other
invariant-loop-other l = record {
  passed : l.place ≡ l.other-index;
  left : l.place + place_in l.literal (drop l.other-index l.other-items) ≡ place_in l.literal l.other-items;
}
