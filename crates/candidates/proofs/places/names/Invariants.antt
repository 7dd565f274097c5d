use Rattle.std.proofs.Common.{drop}
use Rattle.program_tree.specs.View.{texts_view}
use Rattle.candidates.specs.Places.{HasNames}
use Rattle.candidates.proofs.places.names.Given as goal

abbrev pub invariant-loop-index : goal.invariant-loop-index
invariant-loop-index l = HasNames l.set (texts_view (drop l.index l.list))
