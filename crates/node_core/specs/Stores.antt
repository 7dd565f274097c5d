-- The words that flat statements leave in the store. The places are those of the cells and behind them those of the scratch cells.
use Rattle.std.specs.Prelude.{ℕ, ◌+◌, List, [], ◌∷◌, ◌++◌, map, nat_eq, Option, None, Some, slice_index_or, slice_set, if◌then◌else◌}
use Rattle.plc_types.specs.declared.elementary.Elementary.TheVariants as types
use Rattle.program_tree.specs.Tree.{Expression}
use Rattle.program_tree.specs.declared.scratch.Scratch.{Scratch}
use Rattle.program_tree.specs.Places.{of_cell, place_at}
use Rattle.flat_core.specs.FlatTree.{FlatStatement, set, branch, FlatStatements, no_flats, flat, FlatData}
use Rattle.node_core.specs.declared.node.Node.TheVariants.{Outside, Mux}
use Rattle.node_core.specs.Words.{NodeList, Made, Store, word_at, taken, made, faulted, word_of}

abbrev pub places_of : FlatData → List Scratch
places_of f = map of_cell f.cells ++ f.scratch

pub record MadeStore : Type 0 where
  pub store : Store
  pub list : NodeList

-- the word of FAULT is the one that place 0 holds
abbrev pub with_fault_of : Store → NodeList → NodeList
with_fault_of store n = record { starts = n.starts; nodes = n.nodes; fault = word_at store 0 }

abbrev pub with_word : ℕ → ℕ → Store → Store
with_word place word store = slice_set store place (Some word)

-- ---- assignments

-- A subrange that held a word keeps it where the new one lies outside of its range, which is a fault.
unfoldable pub tested_word : Scratch → ℕ → ℕ → NodeList → Made
tested_word p old a n =
    let out = made (Outside p.kind p.range a) n in
    made (Mux p.kind out.word old a) (faulted out)

unfoldable pub target_word : Scratch → Option ℕ → ℕ → NodeList → Made
target_word p None a n = taken a n
target_word p (Some old) a n = if p.is_subrange then tested_word p old a n else taken a n

-- the word that a place gets
abbrev pub set_word : List Scratch → ℕ → Expression → Store → NodeList → Made
set_word ps place e store n =
    let m = word_of store (place_at ps place).kind e (with_fault_of store n) in
    target_word (place_at ps place) (slice_index_or store place None) m.word m.list

-- ---- choices

-- One word where a condition is TRUE and one where it is not become one, and a place that held no word before holds none.
unfoldable pub merged_word : Scratch → ℕ → Option ℕ → ℕ → ℕ → NodeList → (Option ℕ × NodeList)
merged_word p c None a b n = (None, n)
merged_word p c (Some held) a b n =
    if nat_eq a b then (Some a, n) else (let m = made (Mux p.kind c a b) n in (Some m.word, m.list))

-- The same of all places from one on, given what they held before, and the stores behind the two sides.
abbrev pub merged : List Scratch → ℕ → Store → Store → ℕ → Store → NodeList → MadeStore
merged ps c on off place [] n = record { store = []; list = n }
merged ps c on off place (held ∷ more) n =
    let m = merged_word (place_at ps place) c held (word_at on place) (word_at off place) n in
    let r = merged ps c on off (place + 1) more m.1 in
    record { store = m.0 ∷ r.store; list = r.list }

-- ---- statements

-- Both sides of a choice begin with the store behind its condition. What its nodes are stands in the order: the condition's, those of
-- the one side, those of the other, and a node for each place whose two words differ.
abbrev mutual
  pub store_of : List Scratch → FlatStatement → Store → NodeList → MadeStore
  store_of ps (set place e) store n =
      let w = set_word ps place e store n in
      record { store = with_word place w.word (with_word 0 w.list.fault store); list = w.list }
  store_of ps (branch e a b) store n =
      let m = word_of store types.Bool e (with_fault_of store n) in
      let begun = with_word 0 m.list.fault store in
      let on = store_of_all ps a begun m.list in
      let off = store_of_all ps b begun on.list in
      merged ps m.word on.store off.store 0 begun off.list

  pub store_of_all : List Scratch → FlatStatements → Store → NodeList → MadeStore
  store_of_all ps no_flats store n = record { store = store; list = n }
  store_of_all ps (flat t ts) store n =
      let r = store_of ps t store n in
      store_of_all ps ts r.store r.list
