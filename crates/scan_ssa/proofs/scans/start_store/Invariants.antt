use Rattle.std.proofs.Common.{◌≡◌, ◌++◌, ◌-◌, drop, map, None}
use Rattle.node_core.specs.Scans.{start_words}
use Rattle.scan_ssa.proofs.scans.start_store.Given as goal

abbrev pub invariant-loop-cell : goal.invariant-loop-cell
invariant-loop-cell l = l.store.items ++ start_words l.cell (l.cells - l.cell) ≡ start_words 0 l.cells

abbrev pub invariant-loop : goal.invariant-loop
invariant-loop l = l.store.items ++ map (λ c. None) (drop l.index l.scratch) ≡ start_words 0 l.cells ++ map (λ c. None) l.scratch
