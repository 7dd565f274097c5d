use Rattle.std.proofs.Common.{◌≡◌, drop}
use Rattle.std.specs.List.{list_any}
use Rattle.meaning.specs.Charts.{sets}
use Rattle.interpreter.proofs.markings.any_sets.Given as goal

abbrev pub invariant-loop-association : goal.invariant-loop-association
invariant-loop-association l = list_any (sets l.now) (drop l.association-index l.associations) ≡ list_any (sets l.now) l.associations
