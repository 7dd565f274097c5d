use Rattle.std.proofs.Common.{◌≡◌, drop}
use Rattle.clause_core.specs.Undoing.{reopened_at}
use Rattle.clause_core.proofs.check.reopen_hints.Given as goal

abbrev pub invariant-loop-number : goal.invariant-loop-number
invariant-loop-number l = reopened_at l.held l.values (drop l.number-index l.hints) ≡ reopened_at l.held l.initial.values l.hints
