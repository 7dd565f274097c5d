-- What the nodes of scans and clauses are for.
use Rattle.std.specs.Prelude.{◌≡◌, ◌<◌, ◌+◌, ℕ, List, [], ◌∷◌, ◌++◌, length, map, pos, ℤ, All}
use Rattle.std.specs.List.{AllZip}
use Rattle.plc_types.specs.declared.elementary.Elementary.{Elementary}
use Rattle.plc_types.specs.declared.elementary.Elementary.TheVariants as types
use Rattle.plc_types.specs.DataTypes.{carrier}
use Rattle.program_tree.specs.Tree.{Expression, CellData}
use Rattle.program_tree.specs.Places.{of_cell, IsTypedPlace}
use Rattle.meaning.specs.Values.{State, number_of, no_callees, value_of, faults}
use Rattle.scan_model.specs.Scans.{ranges_of}
use Rattle.scan_model.specs.InRange.{IsInRange}
use Rattle.flat_core.specs.FlatTree.{FlatData}
use Rattle.flat_core.specs.FlatScans.{flat_scanned}
use Rattle.flat_core.specs.FlatRules.{Reads}
use Rattle.node_core.specs.declared.node.Node.{Node}
use Rattle.node_core.specs.Nodes.{WordsAre, NodesHold, value_in, all_values}
use Rattle.node_core.specs.NodeTypes.{IsWordOf, AreTypedNodes, all_kinds}
use Rattle.node_core.specs.Scans.{scan_of, clause_of}
use Rattle.node_core.specs.TypedFlats.{IsTypedFlat, IsTypedClause}

-- ---- what the words are

-- Where the start words have the values of the cells before a scan, and each node has its value, the last words have those of the cells behind it.
abbrev pub NodesMeanScans : Type 0
NodesMeanScans =
    (f : FlatData) → IsTypedFlat f → (s : State) → IsInRange (ranges_of f.cells) s
    → (val : ℕ → ℤ) → WordsAre val 0 s → NodesHold val (length f.cells) (scan_of f).nodes
    → map val (scan_of f).last ≡ flat_scanned f s

-- the same of a clause over cells that hold a state: the word of its value, and that of its fault
abbrev pub NodesMeanClauses : Type 0
NodesMeanClauses =
    (cells : List CellData) (e : Expression) → All IsTypedPlace (map of_cell cells) → IsTypedClause (map of_cell cells) e → Reads (λ place. place < length cells) e
    → (s : State) → IsInRange (ranges_of cells) s
    → (val : ℕ → ℤ) → WordsAre val 0 (s ++ pos 0 ∷ []) → NodesHold val (length cells + 1) (clause_of (length cells) e).nodes
    → (val (clause_of (length cells) e).value ≡ value_of no_callees 0 e s) × (val (clause_of (length cells) e).fault ≡ number_of (faults no_callees 0 e s))

-- ---- what types they have

abbrev pub kinds_of : List CellData → List Elementary
kinds_of cells = map (λ c. carrier c.kind) cells

-- each word is of the type of its cell
abbrev pub AreWordsOf : List Elementary → List Elementary → List ℕ → Type 0
AreWordsOf ts kinds words = AllZip (λ t w. IsWordOf ts t w) kinds words

abbrev pub NodesOfScansAreTyped : Type 0
NodesOfScansAreTyped =
    (f : FlatData) → IsTypedFlat f
    → AreTypedNodes (kinds_of f.cells) (scan_of f).nodes × AreWordsOf (all_kinds (kinds_of f.cells) (scan_of f).nodes) (kinds_of f.cells) (scan_of f).last

abbrev pub NodesOfClausesAreTyped : Type 0
NodesOfClausesAreTyped =
    (cells : List CellData) (e : Expression) → IsTypedClause (map of_cell cells) e → Reads (λ place. place < length cells) e
    → let ts = kinds_of cells ++ types.Bool ∷ [] in
    let c = clause_of (length cells) e in
    AreTypedNodes ts c.nodes × IsWordOf (all_kinds ts c.nodes) types.Bool c.value × IsWordOf (all_kinds ts c.nodes) types.Bool c.fault

-- ---- that there are such values

-- the values that typed nodes take in turn are theirs, and leave those of the start words
abbrev pub NodesTakeValues : Type 0
NodesTakeValues =
    (ts : List Elementary) (s : State) (xs : List Node) → AreTypedNodes ts xs → length ts ≡ length s
    → WordsAre (value_in (all_values s xs)) 0 s × NodesHold (value_in (all_values s xs)) (length s) xs
