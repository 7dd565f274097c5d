-- The nodes of a scan of a flat program, and those of a clause.
use Rattle.std.specs.Prelude.{ℕ, zero, suc, ◌+◌, List, [], ◌∷◌, ◌++◌, map, length, take, Bool, nat_le, None, Some, unwrap_or}
use Rattle.plc_types.specs.declared.elementary.Elementary.TheVariants as types
use Rattle.program_tree.specs.Tree.{Expression}
use Rattle.flat_core.specs.FlatTree.{FlatData}
use Rattle.node_core.specs.declared.node.Node.{Node}
use Rattle.node_core.specs.declared.scan.Scan.{Scan}
use Rattle.node_core.specs.declared.scan.ClauseNodes.{ClauseNodes}
use Rattle.node_core.specs.Words.{Store, word_of}
use Rattle.node_core.specs.Stores.{MadeStore, places_of, store_of_all}

pub record ScanData : Type 0 where
  pub starts : ℕ
  pub nodes : List Node
  pub last : List ℕ

pub record ClauseData : Type 0 where
  pub starts : ℕ
  pub nodes : List Node
  pub value : ℕ
  pub fault : ℕ

abbrev pub scan_view : Scan → ScanData
scan_view s = record { starts = s.starts; nodes = s.nodes.items; last = s.last.items }

abbrev pub clause_view : ClauseNodes → ClauseData
clause_view c = record { starts = c.starts; nodes = c.nodes.items; value = c.value; fault = c.fault }

-- so many places from one on, each with its start word
abbrev pub start_words : ℕ → ℕ → Store
start_words word zero = []
start_words word (suc n) = Some word ∷ start_words (word + 1) n

-- the cells hold the start words, and the scratch cells no word
abbrev pub start_store : FlatData → Store
start_store f = start_words 0 (length f.cells) ++ map (λ c. None) f.scratch

abbrev pub run_of : FlatData → MadeStore
run_of f = store_of_all (places_of f) f.body (start_store f) (record { starts = length f.cells; nodes = []; fault = 0 })

abbrev pub words_in : Store → List ℕ
words_in store = map (λ w. unwrap_or w 0) store

-- the nodes of a scan, and the words that the cells hold behind it
abbrev pub scan_of : FlatData → ScanData
scan_of f = record { starts = length f.cells; nodes = (run_of f).list.nodes; last = words_in (take (length f.cells) (run_of f).store) }

-- at most 1,000,000 nodes
abbrev pub is_small : FlatData → Bool
is_small f = nat_le (length (scan_of f).nodes) 1000000

-- the nodes of a clause over so many cells; behind their start words stands one that is FALSE, where the clause's fault starts
abbrev pub clause_of : ℕ → Expression → ClauseData
clause_of cells e =
    let m = word_of (start_words 0 cells) types.Bool e (record { starts = cells + 1; nodes = []; fault = cells }) in
    record { starts = cells + 1; nodes = m.list.nodes; value = m.word; fault = m.list.fault }
