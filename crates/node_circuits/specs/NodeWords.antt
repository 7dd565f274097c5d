-- The words of nodes: each node in turn makes a word, and the gates for it, from the words before it.
use Rattle.std.specs.Prelude.{ℕ, false, List, [], ◌∷◌, ◌++◌, map, slice_get, unwrap_or, Vec}
use Rattle.std.specs.declared.alloc.Global.{Global}
use Rattle.clause_core.specs.declared.literal.Lit.{Lit}
use Rattle.plc_types.specs.declared.elementary.Elementary.{Elementary}
use Rattle.plc_types.specs.declared.elementary.Elementary.TheVariants as types
use Rattle.plc_types.specs.Types.{width_of, is_signed}
use Rattle.node_core.specs.declared.node.Node.{Node}
use Rattle.node_core.specs.declared.node.Node.TheVariants.{Constant, Unary, Binary, Convert, Absolute, Minimum, Maximum, Shift, IsZero, Outside, Mux}
use Rattle.gates.specs.Netlists.{Netlist}
use Rattle.word_circuits.specs.Words.{MadeWord, ready, top_of, constant_of}
use Rattle.word_circuits.specs.Comparisons.{is_zero_of, outside_of}
use Rattle.word_circuits.specs.Choices.{choose_of, min_of, max_of, abs_of}
use Rattle.word_circuits.specs.Conversions.{resized}
use Rattle.node_circuits.specs.Rows.{one_bit, unary_of, binary_of, conversion_of, shift_of}

-- words of literals, each with its number: the start words first, and behind them those of the nodes
abbrev pub Words : Type 0
Words = List (List Lit)

-- the words that vectors hold
abbrev pub words_view : List (Vec Lit Global) → Words
words_view words = map (λ w. w.items) words

-- the word with a number; the empty one where there is none
abbrev pub word_in : Words → ℕ → List Lit
word_in words i = unwrap_or (slice_get words i) []

-- The word with a number as an operand of a type: a word of the type's width. A word of that width is itself; any other is cut, or extended by FALSE.
abbrev pub operand_of : Words → Elementary → ℕ → List Lit
operand_of words t i = resized false (width_of t) (word_in words i)

-- the word of a node
abbrev pub node_of : Words → Node → Netlist → MadeWord
node_of words (Constant t v) n = ready (constant_of (width_of t) v) n
node_of words (Unary o t a) n = unary_of o (operand_of words t a) n
node_of words (Binary o t a b) n = binary_of o (is_signed t) (operand_of words t a) (operand_of words t b) n
node_of words (Convert s t a) n = conversion_of s t (operand_of words s a) n
node_of words (Absolute t a) n = abs_of (is_signed t) (operand_of words t a) n
node_of words (Minimum t a b) n = min_of (is_signed t) (operand_of words t a) (operand_of words t b) n
node_of words (Maximum t a b) n = max_of (is_signed t) (operand_of words t a) (operand_of words t b) n
node_of words (Shift s places t a) n = ready (shift_of s places (operand_of words t a)) n
node_of words (IsZero t a) n = one_bit (is_zero_of (operand_of words t a) n)
node_of words (Outside t r a) n = one_bit (outside_of (is_signed t) (operand_of words t a) r.low r.high n)
node_of words (Mux t c a b) n = choose_of (top_of (operand_of words types.Bool c)) (operand_of words t a) (operand_of words t b) n

-- words, and the circuit after they were made
pub record MadeWords : Type 0 where
  pub words : Words
  pub net : Netlist

-- the words before, and behind them those of the nodes in order
abbrev pub words_of_nodes : List Node → Words → Netlist → MadeWords
words_of_nodes [] words n = record { words = words; net = n }
words_of_nodes (x ∷ xs) words n =
    let m = node_of words x n in
    words_of_nodes xs (words ++ m.word ∷ []) m.net
