use Rattle.std.proofs.Common.{◌≡◌, drop}
use Rattle.std.specs.List.{list_any}
use Rattle.meaning.specs.Charts.{asks}
use Rattle.interpreter.proofs.markings.any_asks.Given as goal

abbrev pub invariant-loop-association : goal.invariant-loop-association
invariant-loop-association l = list_any (asks l.now l.before) (drop l.association-index l.associations) ≡ list_any (asks l.now l.before) l.associations
