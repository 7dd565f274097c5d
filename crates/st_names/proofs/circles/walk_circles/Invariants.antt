use Rattle.source_tree.specs.SyntaxView.{file_view}
use Rattle.naming.proofs.CircleLemmas.{AreCircles}
use Rattle.st_names.proofs.circles.walk_circles.Given as goal

abbrev pub invariant-loop-number : goal.invariant-loop-number
invariant-loop-number l = AreCircles (file_view l.file) l.number l.first
