use Rattle.std.proofs.Common.{◌≡◌, drop}
use Rattle.std.specs.List.{list_any}
use Rattle.derivation_check.specs.Inside.{is_empty}
use Rattle.derivation_check.proofs.deletion.has_empty.Given as goal

abbrev pub invariant-loop-clause : goal.invariant-loop-clause
invariant-loop-clause l = list_any is_empty (drop l.clause-index l.clauses) ≡ list_any is_empty l.clauses
