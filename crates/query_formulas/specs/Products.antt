-- The circuit of one scan from any pair: its free bits are the cells of OLD, those of NEW, and the numbers of the INPUT lines.
use Rattle.std.specs.Prelude.{ℕ, ◌+◌, List, [], ◌++◌}
use Rattle.clause_core.specs.declared.literal.Lit.{Lit}
use Rattle.gates.specs.Netlists.{Netlist}
use Rattle.node_circuits.specs.NodeWords.{Words}
use Rattle.query_formulas.specs.CellShapes.{bits_of}
use Rattle.query_formulas.specs.Parts.{Parts}
use Rattle.query_formulas.specs.PairWords.{PairWords, free_words, loaded_words}
use Rattle.query_formulas.specs.Literals.{MadeLiterals, outside_cells, pair_literals}
use Rattle.query_formulas.specs.PairScans.{scanned_pair}

-- ---- the pieces

-- whether the cells of OLD, those of NEW and the numbers lie outside of their ranges
abbrev pub outside_all : Parts → PairWords → Words → Netlist → MadeLiterals
outside_all parts pair inputs n =
    let o = outside_cells parts.old pair.old n in
    let w = outside_cells parts.new pair.new o.net in
    let i = outside_cells parts.lines inputs w.net in
    record { lits = (o.lits ++ w.lits) ++ i.lits; net = i.net }

-- before the row: what lies outside of its range, and the candidates
pub record Premises : Type 0 where
  pub outside : List Lit
  pub before : List Lit
  pub net : Netlist

abbrev pub premises_from : Parts → PairWords → Words → Netlist → Premises
premises_from parts pair inputs n =
    let o = outside_all parts pair inputs n in
    let b = pair_literals pair parts.candidates o.net in
    record { outside = o.lits; before = b.lits; net = b.net }

-- a row: the pair with its numbers loaded, and the ENV clauses on that
pub record LoadedRow : Type 0 where
  pub environment : List Lit
  pub pair : PairWords
  pub net : Netlist

abbrev pub loaded_row : Parts → Words → PairWords → Netlist → LoadedRow
loaded_row parts inputs pair n =
    let loaded = loaded_words parts.inputs inputs pair in
    let e = pair_literals loaded parts.environment n in
    record { environment = e.lits; pair = loaded; net = e.net }

-- behind the scan: the candidates, and the RELATE clauses
pub record Consequences : Type 0 where
  pub after : List Lit
  pub relates : List Lit
  pub net : Netlist

abbrev pub consequences_from : Parts → PairWords → Netlist → Consequences
consequences_from parts pair n =
    let behind = scanned_pair parts.old_scan parts.new_scan pair n in
    let a = pair_literals behind.pair parts.candidates behind.net in
    let r = pair_literals behind.pair parts.relates a.net in
    record { after = a.lits; relates = r.lits; net = r.net }

-- ---- the circuit

-- the literals of the circuit
pub record ProductLits : Type 0 where
  pub outside : List Lit
  pub before : List Lit
  pub environment : List Lit
  pub after : List Lit
  pub relates : List Lit
  pub net : Netlist

abbrev pub product_from : Parts → PairWords → Words → Netlist → ProductLits
product_from parts pair inputs n =
    let p = premises_from parts pair inputs n in
    let e = loaded_row parts inputs pair p.net in
    let c = consequences_from parts e.pair e.net in
    record { outside = p.outside; before = p.before; environment = e.environment; after = c.after; relates = c.relates; net = c.net }

-- the circuit with its words and literals
pub record Product : Type 0 where
  pub pair : PairWords
  pub inputs : Words
  pub lits : ProductLits

-- how many free bits there are
abbrev pub product_bits : Parts → ℕ
product_bits parts = bits_of parts.old + bits_of parts.new + bits_of parts.lines

-- the variables of the free bits come behind TRUE, and the gates behind them
abbrev pub product_of : Parts → ℕ → Product
product_of parts limit =
    let pair : PairWords = record { old = free_words 2 parts.old; new = free_words (2 + bits_of parts.old) parts.new } in
    let inputs = free_words (2 + bits_of parts.old + bits_of parts.new) parts.lines in
    record { pair = pair; inputs = inputs; lits = product_from parts pair inputs (record { first = product_bits parts + 2; limit = limit; gates = [] }) }
