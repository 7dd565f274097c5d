use Rattle.std.proofs.Common.{◌≡◌, drop}
use Rattle.watched_propagation.specs.Watching.{is_part}
use Rattle.watched_propagation.proofs.covered.is_part.Given as goal

abbrev pub invariant-loop-code : goal.invariant-loop-code
invariant-loop-code l = is_part l.rest (drop l.code-index l.whole) ≡ is_part l.part l.whole
