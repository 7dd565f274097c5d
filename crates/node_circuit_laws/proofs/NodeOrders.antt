-- The words of nodes leave each gate behind its operands, and are words of the circuit.
use Rattle.std.proofs.Common.{◌≡◌, ◌⊎◌, inl, inr, sym, subst, ℕ, Bool, true, false, List, [], ◌∷◌, ◌++◌, zero, suc}
use Rattle.std.specs.Prelude.{All}
use Rattle.std.proofs.lemmas.List.Elements.{All-head, All-tail, All-push, All-weaker}
use Rattle.clause_core.specs.declared.literal.Lit.{Lit}
use Rattle.plc_types.specs.declared.elementary.Elementary.{Elementary}
use Rattle.plc_types.specs.declared.elementary.Elementary.TheVariants as types
use Rattle.plc_types.specs.declared.function.Shift.{Shift as AnyShift}
use Rattle.plc_types.specs.declared.function.Shift.TheVariants as shifts
use Rattle.plc_types.specs.declared.operator.Operator.{Operator}
use Rattle.plc_types.specs.declared.operator.Operator.TheVariants as ops
use Rattle.plc_types.specs.declared.operator.UnaryOperator.{UnaryOperator}
use Rattle.plc_types.specs.declared.operator.UnaryOperator.TheVariants as signs
use Rattle.plc_types.specs.Types.{width_of, is_signed}
use Rattle.node_core.specs.declared.node.Node.{Node}
use Rattle.node_core.specs.declared.node.Node.TheVariants.{Constant, Unary, Binary, Convert, Absolute, Minimum, Maximum, Shift, IsZero, Outside, Mux}
use Rattle.gates.specs.Literals.{false_lit}
use Rattle.gates.specs.Netlists.{Netlist, Made, IsExtensionOf}
use Rattle.gates.specs.Order.{IsOrdered}
use Rattle.gates.specs.Models.{ExtendsOnce}
use Rattle.gates.proofs.Growth.{extends_self, extends_then}
use Rattle.gates.proofs.OneModel.{ExtendsOnce_ordered}
use Rattle.word_circuits.specs.declared.bits.BitOperator.TheVariants as bits
use Rattle.word_circuits.specs.declared.comparisons.Comparison.TheVariants as comparisons
use Rattle.word_circuits.specs.declared.divide.Part.TheVariants as parts
use Rattle.word_circuits.specs.Words.{top_of}
use Rattle.word_circuits.specs.Sums.{MadeSum}
use Rattle.word_orders.specs.Orders.{IsWordOf, MakesLiteral, MakesWord, MakesSum}
use Rattle.word_orders.proofs.Literals.{IsLiteralOf-false, IsLiteralOf-top, IsWordOf-later, IsWordOf-nil, IsWordOf-cons, IsWordOf-constant, IsWordOf-not, IsWordOf-shl, IsWordOf-shr, IsWordOf-rol, IsWordOf-ror, IsWordOf-resized}
use Rattle.word_orders.proofs.Rules.{makes_ready_word}
use Rattle.word_orders.proofs.Sums.{makes_add, makes_sub, makes_neg, makes_mul}
use Rattle.word_orders.proofs.Divisions.{makes_division}
use Rattle.word_orders.proofs.Comparisons.{makes_is_zero, makes_comparison, makes_outside, makes_min, makes_max, makes_abs}
use Rattle.word_orders.proofs.Choices.{makes_bitwise, makes_choose, makes_any}
use Rattle.node_circuits.specs.Rows.{one_bit, sum_alone, unary_of, binary_of, conversion_of, shift_of}
use Rattle.node_circuits.specs.NodeWords.{Words, word_in, operand_of, node_of, words_of_nodes}
use Rattle.node_circuit_laws.specs.WordValues.{MakesWords}
use Rattle.node_circuit_laws.proofs.Conversions.{IsResizing, bool_or_resizing}

-- ---- words of a list

found_word : (n : Netlist) (words : Words) (i : ℕ) → All (IsWordOf n) words → IsWordOf n (word_in words i)
found_word n [] i h = IsWordOf-nil n
found_word n (w ∷ ws) zero h = All-head (IsWordOf n) w ws h
found_word n (w ∷ ws) (suc i) h = found_word n ws i (All-tail (IsWordOf n) w ws h)

operand_word : (n : Netlist) (words : Words) (t : Elementary) (i : ℕ) → IsOrdered n → All (IsWordOf n) words → IsWordOf n (operand_of words t i)
operand_word n words t i o h = IsWordOf-resized n false (width_of t) (word_in words i) o (found_word n words i h)

words_later : (n later : Netlist) (words : Words) → IsExtensionOf n later → All (IsWordOf n) words → All (IsWordOf later) words
words_later n later words e h = All-weaker (IsWordOf n) (IsWordOf later) (λ w k. IsWordOf-later n later w e k) words h

-- ---- rows

of_literal : (n : Netlist) (m : Made) → MakesLiteral n m → MakesWord n (one_bit m)
of_literal n m h = record { extends = h.extends; ordered = h.ordered; word = IsWordOf-cons m.net m.lit [] h.literal (IsWordOf-nil m.net) }

of_sum : (n : Netlist) (m : MadeSum) → MakesSum n m → MakesWord n (sum_alone m)
of_sum n m h = record { extends = h.extends; ordered = h.ordered; word = h.word }

makes_unary : (o : UnaryOperator) (a : List Lit) (n : Netlist) → IsOrdered n → IsWordOf n a → MakesWord n (unary_of o a n)
makes_unary signs.Minus a n o h = of_sum n _ (makes_neg a n o h)
makes_unary signs.Not a n o h = makes_ready_word _ n o (IsWordOf-not n a h)

makes_binary : (k : Operator) (s : Bool) (a b : List Lit) (n : Netlist) → IsOrdered n → IsWordOf n a → IsWordOf n b → MakesWord n (binary_of k s a b n)
makes_binary ops.Or s a b n o h k = makes_bitwise bits.Or a b n o h k
makes_binary ops.Xor s a b n o h k = makes_bitwise bits.Xor a b n o h k
makes_binary ops.And s a b n o h k = makes_bitwise bits.And a b n o h k
makes_binary ops.Equal s a b n o h k = of_literal n _ (makes_comparison comparisons.Equal s a b n o h k)
makes_binary ops.NotEqual s a b n o h k = of_literal n _ (makes_comparison comparisons.NotEqual s a b n o h k)
makes_binary ops.Less s a b n o h k = of_literal n _ (makes_comparison comparisons.Less s a b n o h k)
makes_binary ops.Greater s a b n o h k = of_literal n _ (makes_comparison comparisons.Greater s a b n o h k)
makes_binary ops.LessEqual s a b n o h k = of_literal n _ (makes_comparison comparisons.LessOrEqual s a b n o h k)
makes_binary ops.GreaterEqual s a b n o h k = of_literal n _ (makes_comparison comparisons.GreaterOrEqual s a b n o h k)
makes_binary ops.Plus s a b n o h k = of_sum n _ (makes_add a b false_lit n o h k (IsLiteralOf-false n o))
makes_binary ops.Minus s a b n o h k = of_sum n _ (makes_sub a b n o h k)
makes_binary ops.Times s a b n o h k = makes_mul a b n o h k
makes_binary ops.Divide s a b n o h k = makes_division parts.Quotient s a b n o h k
makes_binary ops.Mod s a b n o h k = makes_division parts.Remainder s a b n o h k

makes_conversion : (from to : Elementary) (a : List Lit) (n : Netlist) → IsOrdered n → IsWordOf n a → MakesWord n (conversion_of from to a n)
makes_conversion from to a n o h = by (bool_or_resizing to)
  where
    by : (to ≡ types.Bool) ⊎ IsResizing to → MakesWord n (conversion_of from to a n)
    by (inl e) = subst (λ (t : Elementary). MakesWord n (conversion_of from t a n)) (sym e) (of_literal n _ (makes_any a n o h))
    by (inr is) = rw (is.word from a n) (makes_ready_word _ n o (IsWordOf-resized n (is_signed from) (width_of to) a o h))

shift_word : (s : AnyShift) (k : ℕ) (a : List Lit) (n : Netlist) → IsOrdered n → IsWordOf n a → IsWordOf n (shift_of s k a)
shift_word shifts.Left k a n o h = IsWordOf-shl n k a o h
shift_word shifts.Right k a n o h = IsWordOf-shr n k a o h
shift_word shifts.RotateLeft k a n o h = IsWordOf-rol n k a h
shift_word shifts.RotateRight k a n o h = IsWordOf-ror n k a h

makes_node : (words : Words) (x : Node) (n : Netlist) → IsOrdered n → All (IsWordOf n) words → MakesWord n (node_of words x n)
makes_node words (Constant t v) n o h = makes_ready_word _ n o (IsWordOf-constant n (width_of t) v o)
makes_node words (Unary k t a) n o h = makes_unary k (operand_of words t a) n o (operand_word n words t a o h)
makes_node words (Binary k t a b) n o h = makes_binary k (is_signed t) (operand_of words t a) (operand_of words t b) n o (operand_word n words t a o h) (operand_word n words t b o h)
makes_node words (Convert s t a) n o h = makes_conversion s t (operand_of words s a) n o (operand_word n words s a o h)
makes_node words (Absolute t a) n o h = makes_abs (is_signed t) (operand_of words t a) n o (operand_word n words t a o h)
makes_node words (Minimum t a b) n o h = makes_min (is_signed t) (operand_of words t a) (operand_of words t b) n o (operand_word n words t a o h) (operand_word n words t b o h)
makes_node words (Maximum t a b) n o h = makes_max (is_signed t) (operand_of words t a) (operand_of words t b) n o (operand_word n words t a o h) (operand_word n words t b o h)
makes_node words (Shift s k t a) n o h = makes_ready_word _ n o (shift_word s k (operand_of words t a) n o (operand_word n words t a o h))
makes_node words (IsZero t a) n o h = of_literal n _ (makes_is_zero (operand_of words t a) n o (operand_word n words t a o h))
makes_node words (Outside t r a) n o h = of_literal n _ (makes_outside (is_signed t) (operand_of words t a) r.low r.high n o (operand_word n words t a o h))
makes_node words (Mux t c a b) n o h =
    makes_choose (top_of (operand_of words types.Bool c)) (operand_of words t a) (operand_of words t b) n o
    (IsLiteralOf-top n (operand_of words types.Bool c) o (operand_word n words types.Bool c o h)) (operand_word n words t a o h) (operand_word n words t b o h)

pub order_of_nodes : (xs : List Node) (words : Words) (n : Netlist) → IsOrdered n → All (IsWordOf n) words → MakesWords n (words_of_nodes xs words n)
order_of_nodes [] words n o h = record { extends = extends_self n; ordered = o; words = h }
order_of_nodes (x ∷ xs) words n o h =
    let m = node_of words x n in
    let k = makes_node words x n o h in
    let r = order_of_nodes xs (words ++ m.word ∷ []) m.net k.ordered (All-push (IsWordOf m.net) words m.word (words_later n m.net words k.extends h) k.word) in
    record { extends = extends_then n m.net _ k.extends r.extends; ordered = r.ordered; words = r.words }

pub once_of_nodes : (xs : List Node) (words : Words) (n : Netlist) (setting : ℕ → Bool) → IsOrdered n → All (IsWordOf n) words → setting 1 ≡ true → ExtendsOnce (words_of_nodes xs words n).net setting
once_of_nodes xs words n setting o h one = ExtendsOnce_ordered (words_of_nodes xs words n).net setting (order_of_nodes xs words n o h).ordered one
