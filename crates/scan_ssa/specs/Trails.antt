-- Changes of a store, and the store as it was at a mark of its log.
use Rattle.std.specs.Prelude.{◌≡◌, ◌≤◌, ℕ, List, [], ◌∷◌, length, drop, slice_set}
use Rattle.node_core.specs.Words.{Store}
use Rattle.scan_ssa.specs.declared.trail.Change.{Change}
use Rattle.scan_ssa.specs.declared.trail.Trail.{Trail}

-- changes are made from the last to the first
abbrev pub with_changes : List Change → Store → Store
with_changes [] store = store
with_changes (c ∷ cs) store = slice_set (with_changes cs store) c.place c.word

-- the store when the log had so many entries
abbrev pub store_at : Trail → ℕ → Store
store_at trail mark = with_changes (drop mark trail.log.items) trail.store.items

-- the store at each mark up to one is as before
pub record Keeps (mark : ℕ) (old new : Trail) : Type 0 where
  pub longer : mark ≤ length new.log.items
  pub same : (m : ℕ) → m ≤ mark → store_at new m ≡ store_at old m
