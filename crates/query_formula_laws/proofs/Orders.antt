-- What is made for a pair leaves each gate behind its operands, and its literals are those of its variables.
use Rattle.std.proofs.Common.{◌≡◌, ℕ, zero, suc, ◌+◌, ◌-◌, ◌<◌, ◌≤◌, Bool, true, false, ◌&&◌, refl, List, [], ◌∷◌, ◌++◌, length, map, arith}
use Rattle.std.specs.Prelude.{All, nat_lt, nat_le, if◌then◌else◌}
use Rattle.std.proofs.lemmas.Bool.Decides.{nat_tests}
use Rattle.std.proofs.lemmas.List.Elements.{All-head, All-tail, All-append, All-nil, All-cons, All-set, All-weaker, All-push}
use Rattle.clause_core.specs.declared.literal.Lit.{Lit}
use Rattle.clause_core.specs.Values.{negation}
use Rattle.clause_core.specs.Clauses.{is_inside}
use Rattle.plc_types.specs.declared.elementary.Elementary.TheVariants as types
use Rattle.plc_types.specs.Types.{width_of, is_signed}
use Rattle.scan_model.specs.declared.relation.InputLine.{InputLine}
use Rattle.scan_model.specs.declared.relation.InputLine.TheVariants.{Both, Old, New}
use Rattle.gates.specs.Literals.{plain, false_lit}
use Rattle.gates.specs.Netlists.{Netlist, IsExtensionOf}
use Rattle.gates.specs.Order.{IsOrdered, IsLiteralOf, end_of}
use Rattle.gates.proofs.Growth.{extends_self, extends_then}
use Rattle.word_orders.specs.Orders.{IsWordOf, MakesLiteral}
use Rattle.word_orders.proofs.Literals.{IsLiteralOf-later, IsLiteralOf-false, IsLiteralOf-negation, IsLiteralOf-top, IsLiteralOf-variable, IsWordOf-later, IsWordOf-nil, IsWordOf-cons, IsWordOf-constant, IsWordOf-resized}
use Rattle.word_orders.proofs.Rules.{makes_and}
use Rattle.word_orders.proofs.Comparisons.{makes_outside}
use Rattle.node_core.specs.Scans.{ScanData, ClauseData}
use Rattle.node_circuits.specs.NodeWords.{Words, word_in, operand_of, words_of_nodes}
use Rattle.node_circuit_laws.proofs.NodeOrders.{order_of_nodes}
use Rattle.query_formulas.specs.declared.shapes.CellShape.{CellShape}
use Rattle.query_formulas.specs.CellShapes.{bits_of, width_of_cell}
use Rattle.query_formulas.specs.Parts.{Parts}
use Rattle.query_formulas.specs.PairWords.{PairWords, clause_words, free_word, free_words, initial_words, loaded_word, loaded_words}
use Rattle.query_formulas.specs.Literals.{MadeLiterals, none_made, bit_of, outside_cell, outside_one, outside_cells, clause_literal, clause_literals, pair_literals}
use Rattle.query_formulas.specs.PairScans.{scanned_words, scanned_pair}
use Rattle.query_formulas.specs.Products.{product_from, product_bits, product_of}
use Rattle.query_formulas.specs.QueryClauses.{AreInside, IsProductInOrder}

-- the circuit begins with the gates of the one before, and each gate stands after its operands
pub record After (before later : Netlist) : Type 0 where
  pub extends : IsExtensionOf before later
  pub ordered : IsOrdered later

pub after_then : (n m k : Netlist) → IsExtensionOf n m → After m k → After n k
after_then n m k e h = record { extends = extends_then n m k e h.extends; ordered = h.ordered }

-- so does that of literals that are made, and they are of its variables
pub record Makes (before : Netlist) (m : MadeLiterals) : Type 0 where
  pub after : After before m.net
  pub literals : All (IsLiteralOf m.net) m.lits

-- words of a circuit
pub record PairOf (n : Netlist) (words : PairWords) : Type 0 where
  pub old : All (IsWordOf n) words.old
  pub new : All (IsWordOf n) words.new

words_later : (n later : Netlist) (words : Words) → IsExtensionOf n later → All (IsWordOf n) words → All (IsWordOf later) words
words_later n later words e h = All-weaker (IsWordOf n) (IsWordOf later) (λ w k. IsWordOf-later n later w e k) words h

pub pair_later : (n later : Netlist) (words : PairWords) → IsExtensionOf n later → PairOf n words → PairOf later words
pair_later n later words e h = record { old = words_later n later words.old e h.old; new = words_later n later words.new e h.new }

found_word : (n : Netlist) (words : Words) (i : ℕ) → All (IsWordOf n) words → IsWordOf n (word_in words i)
found_word n [] i h = IsWordOf-nil n
found_word n (w ∷ ws) zero h = All-head (IsWordOf n) w ws h
found_word n (w ∷ ws) (suc i) h = found_word n ws i (All-tail (IsWordOf n) w ws h)

later_all : (n later : Netlist) (ls : List Lit) → IsExtensionOf n later → All (IsLiteralOf n) ls → All (IsLiteralOf later) ls
later_all n later ls e h = All-weaker (IsLiteralOf n) (IsLiteralOf later) (λ l k. IsLiteralOf-later n later l e k) ls h

-- ---- variables of a circuit

inside_by : (x v e : ℕ) → e ≡ v + 1 → (nat_lt 0 x && nat_lt x e) ≡ true → (nat_lt 0 x && nat_le x v) ≡ true
inside_by x v e h b = grind (arith, nat_tests)

inside_one : (n : Netlist) (l : Lit) → IsOrdered n → IsLiteralOf n l → is_inside (n.first - 1 + length n.gates) l ≡ true
inside_one n l o h = let some = o.one in inside_by l.variable (n.first - 1 + length n.gates) (end_of n) (omega arith) h.below

and_both : (a b : Bool) → a ≡ true → b ≡ true → (a && b) ≡ true
and_both a b h k = rw (h, k) refl

inside_all : (n : Netlist) (ls : List Lit) → IsOrdered n → All (IsLiteralOf n) ls → AreInside (n.first - 1 + length n.gates) ls
inside_all n [] o h = refl
inside_all n (l ∷ ls) o h = and_both _ _ (inside_one n l o (All-head (IsLiteralOf n) l ls h)) (inside_all n ls o (All-tail (IsLiteralOf n) l ls h))

-- literals of a circuit, in a later one
pub inside_later : (n later : Netlist) (ls : List Lit) → IsOrdered later → IsExtensionOf n later → All (IsLiteralOf n) ls → AreInside (later.first - 1 + length later.gates) ls
inside_later n later ls o e h = inside_all later ls o (later_all n later ls e h)

-- ---- words without gates

free_word_of : (n : Netlist) (k w : ℕ) → 0 < k → k + w ≤ end_of n → IsWordOf n (free_word k w)
free_word_of n k zero some low = IsWordOf-nil n
free_word_of n k (suc w) some low = IsWordOf-cons n (plain k) (free_word (k + 1) w) (IsLiteralOf-variable n k false some (omega arith)) (free_word_of n (k + 1) w (omega arith) (omega arith))

pub free_words_of : (n : Netlist) (k : ℕ) (cells : List CellShape) → 0 < k → k + bits_of cells ≤ end_of n → All (IsWordOf n) (free_words k cells)
free_words_of n k [] some low = All-nil (IsWordOf n)
free_words_of n k (c ∷ cells) some low =
    let w = width_of_cell c in
    All-cons (IsWordOf n) (free_word k w) (free_words (k + w) cells) (free_word_of n k w some (omega arith)) (free_words_of n (k + w) cells (omega arith) (omega arith))

pub initial_words_of : (n : Netlist) (cells : List CellShape) → IsOrdered n → All (IsWordOf n) (initial_words cells)
initial_words_of n [] o = All-nil (IsWordOf n)
initial_words_of n (c ∷ cells) o = All-cons (IsWordOf n) _ (initial_words cells) (IsWordOf-constant n (width_of_cell c) c.initial o) (initial_words_of n cells o)

loaded_line : (n : Netlist) (l : InputLine) (w : List Lit) (words : PairWords) → IsWordOf n w → PairOf n words → PairOf n (loaded_word l w words)
loaded_line n (Both r p q) w words is h = record { old = All-set (IsWordOf n) words.old p w is h.old; new = All-set (IsWordOf n) words.new q w is h.new }
loaded_line n (Old r p) w words is h = record { old = All-set (IsWordOf n) words.old p w is h.old; new = h.new }
loaded_line n (New r q) w words is h = record { old = h.old; new = All-set (IsWordOf n) words.new q w is h.new }

pub loaded_of : (n : Netlist) (ls : List InputLine) (ws : Words) (words : PairWords) → All (IsWordOf n) ws → PairOf n words → PairOf n (loaded_words ls ws words)
loaded_of n [] ws words is h = h
loaded_of n (l ∷ ls) [] words is h = h
loaded_of n (l ∷ ls) (w ∷ ws) words is h = loaded_of n ls ws (loaded_word l w words) (All-tail (IsWordOf n) w ws is) (loaded_line n l w words (All-head (IsWordOf n) w ws is) h)

-- ---- ranges

makes_by : (b : Bool) (c : CellShape) (w : List Lit) (n : Netlist) → IsOrdered n → IsWordOf n w
    → Makes n (if b then (let m = outside_cell c w n in let r : MadeLiterals = record { lits = m.lit ∷ []; net = m.net } in r) else none_made n)
makes_by true c w n o h =
    let m = outside_cell c w n in
    let made = makes_outside (is_signed c.kind) w c.range.low c.range.high n o h in
    record { after = record { extends = made.extends; ordered = made.ordered }; literals = All-cons (IsLiteralOf m.net) m.lit [] made.literal (All-nil (IsLiteralOf m.net)) }
makes_by false c w n o h = record { after = record { extends = extends_self n; ordered = o }; literals = All-nil (IsLiteralOf n) }

makes_one : (c : CellShape) (w : List Lit) (n : Netlist) → IsOrdered n → IsWordOf n w → Makes n (outside_one c w n)
makes_one c w n o h = makes_by c.bounded c w n o h

pub makes_cells : (cs : List CellShape) (ws : Words) (n : Netlist) → IsOrdered n → All (IsWordOf n) ws → Makes n (outside_cells cs ws n)
makes_cells [] ws n o h = record { after = record { extends = extends_self n; ordered = o }; literals = All-nil (IsLiteralOf n) }
makes_cells (c ∷ cs) [] n o h = record { after = record { extends = extends_self n; ordered = o }; literals = All-nil (IsLiteralOf n) }
makes_cells (c ∷ cs) (w ∷ ws) n o h =
    let m = outside_one c w n in
    let first = makes_one c w n o (All-head (IsWordOf n) w ws h) in
    let r = outside_cells cs ws m.net in
    let rest = makes_cells cs ws m.net first.after.ordered (words_later n m.net ws first.after.extends (All-tail (IsWordOf n) w ws h)) in
    record {
      after = after_then n m.net r.net first.after.extends rest.after;
      literals = All-append (IsLiteralOf r.net) m.lits r.lits (later_all m.net r.net m.lits rest.after.extends first.literals) rest.literals;
    }

-- ---- clauses

bit_literal : (n : Netlist) (words : Words) (i : ℕ) → IsOrdered n → All (IsWordOf n) words → IsLiteralOf n (bit_of words i)
bit_literal n words i o h = IsLiteralOf-top n (operand_of words types.Bool i) o (IsWordOf-resized n false (width_of types.Bool) (word_in words i) o (found_word n words i h))

makes_clause : (starts : Words) (c : ClauseData) (n : Netlist) → IsOrdered n → All (IsWordOf n) starts → MakesLiteral n (clause_literal starts c n)
makes_clause starts c n o h =
    let m = words_of_nodes c.nodes starts n in
    let made = order_of_nodes c.nodes starts n o h in
    let last = makes_and (bit_of m.words c.value) (negation (bit_of m.words c.fault)) m.net made.ordered (bit_literal m.net m.words c.value made.ordered made.words) (IsLiteralOf-negation m.net (bit_of m.words c.fault) (bit_literal m.net m.words c.fault made.ordered made.words)) in
    record { extends = extends_then n m.net _ made.extends last.extends; ordered = last.ordered; literal = last.literal }

makes_clauses : (starts : Words) (cs : List ClauseData) (n : Netlist) → IsOrdered n → All (IsWordOf n) starts → Makes n (clause_literals starts cs n)
makes_clauses starts [] n o h = record { after = record { extends = extends_self n; ordered = o }; literals = All-nil (IsLiteralOf n) }
makes_clauses starts (c ∷ cs) n o h =
    let m = clause_literal starts c n in
    let first = makes_clause starts c n o h in
    let r = clause_literals starts cs m.net in
    let rest = makes_clauses starts cs m.net first.ordered (words_later n m.net starts first.extends h) in
    record {
      after = after_then n m.net r.net first.extends rest.after;
      literals = All-cons (IsLiteralOf r.net) m.lit r.lits (IsLiteralOf-later m.net r.net m.lit rest.after.extends first.literal) rest.literals;
    }

pub makes_pair : (pair : PairWords) (cs : List ClauseData) (n : Netlist) → IsOrdered n → PairOf n pair → Makes n (pair_literals pair cs n)
makes_pair pair cs n o h =
    makes_clauses (clause_words pair) cs n o
    (All-push (IsWordOf n) (pair.old ++ pair.new) (false_lit ∷ []) (All-append (IsWordOf n) pair.old pair.new h.old h.new) (IsWordOf-cons n false_lit [] (IsLiteralOf-false n o) (IsWordOf-nil n)))

-- ---- scans

found_words : (n : Netlist) (words : Words) (last : List ℕ) → All (IsWordOf n) words → All (IsWordOf n) (map (word_in words) last)
found_words n words [] h = All-nil (IsWordOf n)
found_words n words (i ∷ last) h = All-cons (IsWordOf n) (word_in words i) (map (word_in words) last) (found_word n words i h) (found_words n words last h)

record ScannedAfter (n : Netlist) (words : Words) (later : Netlist) : Type 0 where
  after : After n later
  words_of : All (IsWordOf later) words

after_scanned : (s : ScanData) (words : Words) (n : Netlist) → IsOrdered n → All (IsWordOf n) words → ScannedAfter n (scanned_words s words n).words (scanned_words s words n).net
after_scanned s words n o h =
    let m = words_of_nodes s.nodes words n in
    let made = order_of_nodes s.nodes words n o h in
    record { after = record { extends = made.extends; ordered = made.ordered }; words_of = found_words m.net m.words s.last made.words }

pub record PairAfter (n : Netlist) (words : PairWords) (later : Netlist) : Type 0 where
  pub after : After n later
  pub pair_of : PairOf later words

pub after_pair : (a b : ScanData) (words : PairWords) (n : Netlist) → IsOrdered n → PairOf n words → PairAfter n (scanned_pair a b words n).pair (scanned_pair a b words n).net
after_pair a b words n o h =
    let first = scanned_words a words.old n in
    let one = after_scanned a words.old n o h.old in
    let two = after_scanned b words.new first.net one.after.ordered (words_later n first.net words.new one.after.extends h.new) in
    record {
      after = after_then n first.net _ one.after.extends two.after;
      pair_of = record { old = words_later first.net _ first.words two.after.extends one.words_of; new = two.words_of };
    }

-- ---- one scan from any pair

makes_product : (parts : Parts) (words : PairWords) (inputs : Words) (n : Netlist) → IsOrdered n → PairOf n words → All (IsWordOf n) inputs
    → IsExtensionOf n (product_from parts words inputs n).net × IsProductInOrder (product_from parts words inputs n)
makes_product parts words inputs n o h r =
    let of_old = outside_cells parts.old words.old n in
    let of_new = outside_cells parts.new words.new of_old.net in
    let of_row = outside_cells parts.lines inputs of_new.net in
    let before = pair_literals words parts.candidates of_row.net in
    let put = loaded_words parts.inputs inputs words in
    let environment = pair_literals put parts.environment before.net in
    let behind = scanned_pair parts.old_scan parts.new_scan put environment.net in
    let after = pair_literals behind.pair parts.candidates behind.net in
    let relates = pair_literals behind.pair parts.relates after.net in
    let old = makes_cells parts.old words.old n o h.old in
    let new = makes_cells parts.new words.new of_old.net old.after.ordered (words_later n of_old.net words.new old.after.extends h.new) in
    let to_new = extends_then n of_old.net of_new.net old.after.extends new.after.extends in
    let row = makes_cells parts.lines inputs of_new.net new.after.ordered (words_later n of_new.net inputs to_new r) in
    let to_row = extends_then n of_new.net of_row.net to_new row.after.extends in
    let two = makes_pair words parts.candidates of_row.net row.after.ordered (pair_later n of_row.net words to_row h) in
    let to_before = extends_then n of_row.net before.net to_row two.after.extends in
    let on_put = pair_later n before.net put to_before (loaded_of n parts.inputs inputs words r h) in
    let three = makes_pair put parts.environment before.net two.after.ordered on_put in
    let scan = after_pair parts.old_scan parts.new_scan put environment.net three.after.ordered (pair_later before.net environment.net put three.after.extends on_put) in
    let five = makes_pair behind.pair parts.candidates behind.net scan.after.ordered scan.pair_of in
    let six = makes_pair behind.pair parts.relates after.net five.after.ordered (pair_later behind.net after.net behind.pair five.after.extends scan.pair_of) in
    let from_behind = extends_then behind.net after.net relates.net five.after.extends six.after.extends in
    let from_environment = extends_then environment.net behind.net relates.net scan.after.extends from_behind in
    let from_before = extends_then before.net environment.net relates.net three.after.extends from_environment in
    let from_row = extends_then of_row.net before.net relates.net two.after.extends from_before in
    let in_new = later_all of_old.net of_new.net of_old.lits new.after.extends old.literals in
    let both = All-append (IsLiteralOf of_new.net) of_old.lits of_new.lits in_new new.literals in
    let in_row = later_all of_new.net of_row.net (of_old.lits ++ of_new.lits) row.after.extends both in
    let all = All-append (IsLiteralOf of_row.net) (of_old.lits ++ of_new.lits) of_row.lits in_row row.literals in (
      extends_then n before.net relates.net to_before from_before,
      record {
        ordered = six.after.ordered;
        outside = inside_later of_row.net relates.net ((of_old.lits ++ of_new.lits) ++ of_row.lits) six.after.ordered from_row all;
        before = inside_later before.net relates.net before.lits six.after.ordered from_before two.literals;
        environment = inside_later environment.net relates.net environment.lits six.after.ordered from_environment three.literals;
        after = inside_later after.net relates.net after.lits six.after.ordered six.after.extends five.literals;
        relates = inside_later relates.net relates.net relates.lits six.after.ordered (extends_self relates.net) six.literals;
      },
    )

-- ---- from its free bits

module _ (parts : Parts) (limit : ℕ) where
  abbrev no_gates : Netlist
  no_gates = record { first = product_bits parts + 2; limit = limit; gates = [] }

  made : IsExtensionOf no_gates (product_of parts limit).lits.net × IsProductInOrder (product_of parts limit).lits
  made =
      let p = product_of parts limit in
      makes_product parts p.pair p.inputs no_gates (record { one = omega arith; ordered = refl })
      (record { old = free_words_of no_gates 2 parts.old (omega arith) (omega arith); new = free_words_of no_gates (2 + bits_of parts.old) parts.new (omega arith) (omega arith) })
      (free_words_of no_gates (2 + bits_of parts.old + bits_of parts.new) parts.lines (omega arith) (omega arith))

  pub extends_product : IsExtensionOf no_gates (product_of parts limit).lits.net
  extends_product = made.0

  -- the circuit of one scan from any pair is in order
  pub product_in_order : IsProductInOrder (product_of parts limit).lits
  product_in_order = made.1
