use Rattle.std.proofs.Common.{◌≡◌, ◌≤◌}
use Rattle.scan_model.specs.Verdicts.{size_below}
use Rattle.queries.specs.Sets.{members}
use Rattle.queries.proofs.set.CandidateSet.size.Given as goal

abbrev pub invariant-loop-number : goal.invariant-loop-number
invariant-loop-number l = record {
  counted : l.size ≡ size_below l.number (members l.self);
  few : l.size ≤ l.number;
}
