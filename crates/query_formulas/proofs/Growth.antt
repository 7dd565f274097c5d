-- What is made for a pair only adds gates to a circuit.
use Rattle.std.proofs.Common.{ℕ, zero, suc, ◌+◌, Bool, true, false, List, [], ◌∷◌}
use Rattle.std.specs.Prelude.{if◌then◌else◌}
use Rattle.clause_core.specs.declared.literal.Lit.{Lit}
use Rattle.clause_core.specs.Values.{negation}
use Rattle.plc_types.specs.Types.{is_signed}
use Rattle.gates.specs.Netlists.{Netlist, IsExtensionOf}
use Rattle.gates.proofs.Growth.{extends_self, extends_then, extends_and}
use Rattle.word_circuits.proofs.Growth.{extends_outside}
use Rattle.node_core.specs.Scans.{ScanData, ClauseData}
use Rattle.node_circuits.specs.NodeWords.{Words, words_of_nodes}
use Rattle.node_circuits.proofs.Growth.{extends_nodes}
use Rattle.query_formulas.specs.declared.shapes.CellShape.{CellShape}
use Rattle.query_formulas.specs.CellShapes.{bits_of}
use Rattle.query_formulas.specs.Parts.{Parts}
use Rattle.query_formulas.specs.PairWords.{PairWords, clause_words, free_words, loaded_words}
use Rattle.query_formulas.specs.Literals.{MadeLiterals, none_made, outside_cell, outside_one, outside_cells, bit_of, clause_literal, clause_literals, pair_literals}
use Rattle.query_formulas.specs.PairScans.{scanned_words, scanned_pair}
use Rattle.query_formulas.specs.Products.{loaded_row}
use Rattle.query_formulas.specs.Breaks.{scan_from, scans_from}

-- ---- literals

pub extends_outside_cell : (c : CellShape) (w : List Lit) (n : Netlist) → IsExtensionOf n (outside_cell c w n).net
extends_outside_cell c w n = extends_outside (is_signed c.kind) w c.range.low c.range.high n

pub extends_one : (c : CellShape) (w : List Lit) (n : Netlist) → IsExtensionOf n (outside_one c w n).net
extends_one c w n = extends_if c.bounded
  where
    extends_if : (b : Bool) → IsExtensionOf n (if b then (let m = outside_cell c w n in let r : MadeLiterals = record { lits = m.lit ∷ []; net = m.net } in r) else none_made n).net
    extends_if true = extends_outside_cell c w n
    extends_if false = extends_self n

pub extends_outside_cells : (cs : List CellShape) (ws : Words) (n : Netlist) → IsExtensionOf n (outside_cells cs ws n).net
extends_outside_cells [] ws n = extends_self n
extends_outside_cells (c ∷ cs) [] n = extends_self n
extends_outside_cells (c ∷ cs) (w ∷ ws) n = extends_then n _ _ (extends_one c w n) (extends_outside_cells cs ws (outside_one c w n).net)

pub after_words : (starts : Words) (c : ClauseData) (n : Netlist) → IsExtensionOf (words_of_nodes c.nodes starts n).net (clause_literal starts c n).net
after_words starts c n =
    let m = words_of_nodes c.nodes starts n in
    extends_and (bit_of m.words c.value) (negation (bit_of m.words c.fault)) m.net

pub extends_clause : (starts : Words) (c : ClauseData) (n : Netlist) → IsExtensionOf n (clause_literal starts c n).net
extends_clause starts c n = extends_then n _ _ (extends_nodes c.nodes starts n) (after_words starts c n)

pub extends_clauses : (starts : Words) (cs : List ClauseData) (n : Netlist) → IsExtensionOf n (clause_literals starts cs n).net
extends_clauses starts [] n = extends_self n
extends_clauses starts (c ∷ cs) n = extends_then n _ _ (extends_clause starts c n) (extends_clauses starts cs (clause_literal starts c n).net)

pub extends_pair_literals : (pair : PairWords) (cs : List ClauseData) (n : Netlist) → IsExtensionOf n (pair_literals pair cs n).net
extends_pair_literals pair cs n = extends_clauses (clause_words pair) cs n

-- ---- scans

pub extends_scan : (s : ScanData) (words : Words) (n : Netlist) → IsExtensionOf n (scanned_words s words n).net
extends_scan s words n = extends_nodes s.nodes words n

pub extends_scans : (old new : ScanData) (pair : PairWords) (n : Netlist) → IsExtensionOf n (scanned_pair old new pair n).net
extends_scans old new pair n =
    let o = scanned_words old pair.old n in
    extends_then n o.net _ (extends_scan old pair.old n) (extends_scan new pair.new o.net)

pub extends_row : (parts : Parts) (inputs : Words) (pair : PairWords) (n : Netlist) → IsExtensionOf n (loaded_row parts inputs pair n).net
extends_row parts inputs pair n = extends_pair_literals (loaded_words parts.inputs inputs pair) parts.environment n

-- ---- scans from the start

-- up to a scan's ENV clauses
abbrev pub begun_net : Parts → Words → PairWords → Netlist → Netlist
begun_net parts inputs pair n = (loaded_row parts inputs pair (outside_cells parts.lines inputs n).net).net

pub extends_begun : (parts : Parts) (inputs : Words) (pair : PairWords) (n : Netlist) → IsExtensionOf n (begun_net parts inputs pair n)
extends_begun parts inputs pair n =
    let o = outside_cells parts.lines inputs n in
    extends_then n o.net _ (extends_outside_cells parts.lines inputs n) (extends_row parts inputs pair o.net)

-- from there to its end
pub extends_rest : (parts : Parts) (inputs : Words) (pair : PairWords) (n : Netlist) → IsExtensionOf (begun_net parts inputs pair n) (scan_from parts inputs pair n).net
extends_rest parts inputs pair n =
    let o = outside_cells parts.lines inputs n in
    let e = loaded_row parts inputs pair o.net in
    let b = scanned_pair parts.old_scan parts.new_scan e.pair e.net in
    extends_then e.net b.net _ (extends_scans parts.old_scan parts.new_scan e.pair e.net) (extends_pair_literals b.pair parts.relates b.net)

pub extends_scan_from : (parts : Parts) (inputs : Words) (pair : PairWords) (n : Netlist) → IsExtensionOf n (scan_from parts inputs pair n).net
extends_scan_from parts inputs pair n =
    extends_then n (begun_net parts inputs pair n) _ (extends_begun parts inputs pair n) (extends_rest parts inputs pair n)

pub extends_scans_from : (parts : Parts) (k v : ℕ) (pair : PairWords) (n : Netlist) → IsExtensionOf n (scans_from parts k v pair n).net
extends_scans_from parts zero v pair n = extends_self n
extends_scans_from parts (suc k) v pair n =
    let s = scan_from parts (free_words v parts.lines) pair n in
    extends_then n s.net _ (extends_scan_from parts (free_words v parts.lines) pair n) (extends_scans_from parts k (v + bits_of parts.lines) s.pair s.net)
