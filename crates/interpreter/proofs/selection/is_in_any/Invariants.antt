use Rattle.std.proofs.Common.{◌≡◌, drop}
use Rattle.meaning.specs.Effects.{is_labelled}
use Rattle.interpreter.proofs.selection.is_in_any.Given as goal

abbrev pub invariant-loop-label : goal.invariant-loop-label
invariant-loop-label l = is_labelled l.value l.labels ≡ is_labelled l.value (drop l.label-index l.labels)
