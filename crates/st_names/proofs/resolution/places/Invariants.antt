use Rattle.std.proofs.Common.{◌≡◌, ◌++◌, drop}
use Rattle.source_tree.specs.SyntaxView.{items_view}
use Rattle.st_names.specs.Bound.{places_from}
use Rattle.st_names.proofs.resolution.places.Given as goal

abbrev pub invariant-loop-place : goal.invariant-loop-place
invariant-loop-place l = l.places.items ++ places_from l.place (items_view (drop l.place l.items)) ≡ places_from 0 (items_view l.items)
