-- The stores that are read.
use Rattle.node_core.specs.Words.{Store}
use Rattle.node_core.specs.Scans.{start_words}
use Rattle.scan_ssa.specs.declared.held.Held.{Held}
use Rattle.scan_ssa.specs.declared.held.Held.TheVariants as held

abbrev pub held_store : Held → Store
held_store (held.Starts cells) = start_words 0 cells
held_store (held.Store store) = store.now
