-- The circuit of scans from the start: its free bits are the numbers of the INPUT lines of each scan. Both states begin as constants.
use Rattle.std.specs.Prelude.{ℕ, zero, suc, ◌+◌, ◌*◌, List, [], ◌∷◌, length}
use Rattle.clause_core.specs.declared.literal.Lit.{Lit}
use Rattle.gates.specs.Netlists.{Netlist}
use Rattle.node_circuits.specs.NodeWords.{Words}
use Rattle.query_formulas.specs.CellShapes.{bits_of}
use Rattle.query_formulas.specs.Parts.{Parts}
use Rattle.query_formulas.specs.PairWords.{PairWords, free_words, initial_words}
use Rattle.query_formulas.specs.Literals.{outside_cells, pair_literals}
use Rattle.query_formulas.specs.PairScans.{scanned_pair}
use Rattle.query_formulas.specs.Products.{loaded_row}

-- one scan: its numbers, which lie outside of their ranges, the ENV clauses, and how many gates there are up to there; the RELATE
-- clauses behind it, and how many gates there are up to there
pub record ScanLiterals : Type 0 where
  pub inputs : Words
  pub outside : List Lit
  pub environment : List Lit
  pub begun : ℕ
  pub relates : List Lit
  pub ended : ℕ

-- a scan, the pair behind it, and the circuit after it was made
pub record MadeScan : Type 0 where
  pub lits : ScanLiterals
  pub pair : PairWords
  pub net : Netlist

abbrev pub scan_from : Parts → Words → PairWords → Netlist → MadeScan
scan_from parts inputs pair n =
    let o = outside_cells parts.lines inputs n in
    let e = loaded_row parts inputs pair o.net in
    let behind = scanned_pair parts.old_scan parts.new_scan e.pair e.net in
    let r = pair_literals behind.pair parts.relates behind.net in
    record {
      lits = record { inputs = inputs; outside = o.lits; environment = e.environment; begun = length e.net.gates; relates = r.lits; ended = length r.net.gates };
      pair = behind.pair;
      net = r.net;
    }

-- scans in their order, and the circuit after they were made
pub record Breaks : Type 0 where
  pub scans : List ScanLiterals
  pub net : Netlist

-- so many scans, the free bits of the first of them being the variables from one on
abbrev pub scans_from : Parts → ℕ → ℕ → PairWords → Netlist → Breaks
scans_from parts zero v pair n = record { scans = []; net = n }
scans_from parts (suc scans) v pair n =
    let s = scan_from parts (free_words v parts.lines) pair n in
    let r = scans_from parts scans (v + bits_of parts.lines) s.pair s.net in
    record { scans = s.lits ∷ r.scans; net = r.net }

abbrev pub start_words : Parts → PairWords
start_words parts = record { old = initial_words parts.old; new = initial_words parts.new }

-- how many free bits there are
abbrev pub breaks_bits : Parts → ℕ
breaks_bits parts = parts.depth * bits_of parts.lines

-- DEPTH scans
abbrev pub breaks_of : Parts → ℕ → Breaks
breaks_of parts limit =
    scans_from parts parts.depth 2 (start_words parts) (record { first = breaks_bits parts + 2; limit = limit; gates = [] })
