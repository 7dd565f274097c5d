use Rattle.std.proofs.Common.{◌≡◌, ◌++◌, drop}
use Rattle.scan_ssa.specs.Merging.{places_in}
use Rattle.scan_ssa.proofs.merging.append_places.Given as goal

abbrev pub invariant-loop-change : goal.invariant-loop-change
invariant-loop-change l = l.places.items ++ places_in (drop l.change-index l.changes) ≡ l.initial.places.items ++ places_in l.changes
