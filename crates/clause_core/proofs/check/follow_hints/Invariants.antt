use Rattle.std.proofs.Common.{◌≡◌, drop}
use Rattle.clause_core.specs.Steps.{follow_hints}
use Rattle.clause_core.specs.Undoing.{after_hints}
use Rattle.clause_core.proofs.check.follow_hints.Given as goal

abbrev pub invariant-loop-number : goal.invariant-loop-number
invariant-loop-number l = record {
  outcome : follow_hints l.held l.values (drop l.number-index l.hints) ≡ follow_hints l.held l.initial.values l.hints;
  after : after_hints l.held l.values (drop l.number-index l.hints) ≡ after_hints l.held l.initial.values l.hints;
}
