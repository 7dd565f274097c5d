-- Literals of a pair of words: whether a cell lies outside of its range, and whether a clause holds.
use Rattle.std.specs.Prelude.{ℕ, List, [], ◌∷◌, ◌++◌, if◌then◌else◌}
use Rattle.clause_core.specs.declared.literal.Lit.{Lit}
use Rattle.clause_core.specs.Values.{negation}
use Rattle.plc_types.specs.declared.elementary.Elementary.TheVariants as types
use Rattle.plc_types.specs.Types.{is_signed}
use Rattle.gates.specs.Netlists.{Netlist, Made}
use Rattle.gates.specs.Rules.{and_of}
use Rattle.word_circuits.specs.Words.{top_of}
use Rattle.word_circuits.specs.Comparisons.{outside_of}
use Rattle.node_core.specs.Scans.{ClauseData}
use Rattle.node_circuits.specs.NodeWords.{Words, operand_of, words_of_nodes}
use Rattle.query_formulas.specs.declared.shapes.CellShape.{CellShape}
use Rattle.query_formulas.specs.PairWords.{PairWords, clause_words}

-- literals, and the circuit after they were made
pub record MadeLiterals : Type 0 where
  pub lits : List Lit
  pub net : Netlist

abbrev pub none_made : Netlist → MadeLiterals
none_made n = record { lits = []; net = n }

abbrev pub in_front : Lit → MadeLiterals → MadeLiterals
in_front l m = record { lits = l ∷ m.lits; net = m.net }

-- a word lies outside of its cell's range
abbrev pub outside_cell : CellShape → List Lit → Netlist → Made
outside_cell c w n = outside_of (is_signed c.kind) w c.range.low c.range.high n

-- one literal for a bounded cell, and none for another
abbrev pub outside_one : CellShape → List Lit → Netlist → MadeLiterals
outside_one c w n = if c.bounded then (let m = outside_cell c w n in record { lits = m.lit ∷ []; net = m.net }) else none_made n

-- those of cells, in their order
abbrev pub outside_cells : List CellShape → Words → Netlist → MadeLiterals
outside_cells [] ws n = none_made n
outside_cells (c ∷ cs) [] n = none_made n
outside_cells (c ∷ cs) (w ∷ ws) n =
    let o = outside_one c w n in
    let r = outside_cells cs ws o.net in
    record { lits = o.lits ++ r.lits; net = r.net }

-- the bit of a word of BOOL
abbrev pub bit_of : Words → ℕ → Lit
bit_of words i = top_of (operand_of words types.Bool i)

-- A clause holds on its start words: its value is TRUE, and its own fault, which begins as FALSE, is not.
abbrev pub clause_literal : Words → ClauseData → Netlist → Made
clause_literal starts c n =
    let m = words_of_nodes c.nodes starts n in
    and_of (bit_of m.words c.value) (negation (bit_of m.words c.fault)) m.net

abbrev pub clause_literals : Words → List ClauseData → Netlist → MadeLiterals
clause_literals starts [] n = none_made n
clause_literals starts (c ∷ cs) n =
    let m = clause_literal starts c n in
    in_front m.lit (clause_literals starts cs m.net)

-- clauses on a pair
abbrev pub pair_literals : PairWords → List ClauseData → Netlist → MadeLiterals
pair_literals pair cs n = clause_literals (clause_words pair) cs n
