-- The widths of words: each operation gives as many bits as its type has.
use Rattle.std.proofs.Common.{◌≡◌, ◌⊎◌, inl, inr, ℕ, ◌+◌, ◌-◌, ◌%◌, ◌<◌, Bool, false, refl, sym, ◌∙◌, ap, subst, List, [], ◌∷◌, ◌++◌, length, map, take, drop, replicate, min, arith, length-append, append_assoc}
use Rattle.std.proofs.lemmas.List.{length-replicate, length-take, length-drop, length-map, map-append, append-nil}
use Rattle.clause_core.specs.declared.literal.Lit.{Lit}
use Rattle.clause_core.specs.Values.{negation}
use Rattle.plc_types.specs.declared.elementary.Elementary.{Elementary}
use Rattle.plc_types.specs.declared.elementary.Elementary.TheVariants as types
use Rattle.plc_types.specs.declared.function.Shift.{Shift as AnyShift}
use Rattle.plc_types.specs.declared.function.Shift.TheVariants as shifts
use Rattle.plc_types.specs.declared.operator.Operator.{Operator}
use Rattle.plc_types.specs.declared.operator.Operator.TheVariants as ops
use Rattle.plc_types.specs.declared.operator.UnaryOperator.{UnaryOperator}
use Rattle.plc_types.specs.declared.operator.UnaryOperator.TheVariants as signs
use Rattle.plc_types.specs.Types.{width_of, is_signed}
use Rattle.meaning.specs.Values.{result_type}
use Rattle.node_core.specs.declared.node.Node.{Node}
use Rattle.node_core.specs.declared.node.Node.TheVariants.{Constant, Unary, Binary, Convert, Absolute, Minimum, Maximum, Shift, IsZero, Outside, Mux}
use Rattle.node_core.specs.NodeTypes.{kind_of, all_kinds}
use Rattle.gates.specs.Literals.{false_lit}
use Rattle.gates.specs.Netlists.{Netlist}
use Rattle.word_circuits.specs.declared.bits.BitOperator.TheVariants as bits
use Rattle.word_circuits.specs.declared.divide.Part.TheVariants as parts
use Rattle.word_circuits.specs.Words.{zeros, top_of}
use Rattle.word_circuits.specs.Comparisons.{lt_of}
use Rattle.word_circuits.specs.Conversions.{filler, kept_below, resized}
use Rattle.word_laws.proofs.Additions.{length-add, length-sub, length-neg}
use Rattle.word_laws.proofs.BitLaws.{length-constant}
use Rattle.word_laws.proofs.Orders.{length-choose}
use Rattle.word_laws.proofs.Products.{length-bitwise, length-mul}
use Rattle.word_laws.proofs.SignedDivisions.{length-abs, length-division}
use Rattle.node_circuits.specs.Rows.{unary_of, binary_of, conversion_of, shift_of}
use Rattle.node_circuits.specs.NodeWords.{Words, word_in, operand_of, node_of, words_of_nodes}
use Rattle.node_circuit_laws.specs.WordValues.{HaveWidths}
use Rattle.node_circuit_laws.proofs.Conversions.{IsResizing, bool_or_resizing}

length-kept : (k w : ℕ) (fill : Lit) (a : List Lit) → k ≡ min w (length a) → length (kept_below k w fill a) ≡ w
length-kept k w fill a e = omega (arith, length-append (take k a) (replicate (w - k) fill), length-take k a, length-replicate (w - k) fill)

pub length-resized : (s : Bool) (w : ℕ) (a : List Lit) → length (resized s w a) ≡ w
length-resized s w a = length-kept (min w (length a)) w (filler s a) a refl

pub length-operand : (words : Words) (t : Elementary) (i : ℕ) → length (operand_of words t i) ≡ width_of t
length-operand words t i = length-resized false (width_of t) (word_in words i)

length-unary : (o : UnaryOperator) (a : List Lit) (n : Netlist) → length (unary_of o a n).word ≡ length a
length-unary signs.Minus a n = length-neg a n
length-unary signs.Not a n = length-map a negation

length-binary : (o : Operator) (t : Elementary) (a b : List Lit) (n : Netlist) → length a ≡ width_of t → length b ≡ width_of t → length (binary_of o (is_signed t) a b n).word ≡ width_of (result_type o t)
length-binary ops.Or t a b n e f = length-bitwise bits.Or a b n (e ∙ sym f) ∙ e
length-binary ops.Xor t a b n e f = length-bitwise bits.Xor a b n (e ∙ sym f) ∙ e
length-binary ops.And t a b n e f = length-bitwise bits.And a b n (e ∙ sym f) ∙ e
length-binary ops.Equal t a b n e f = refl
length-binary ops.NotEqual t a b n e f = refl
length-binary ops.Less t a b n e f = refl
length-binary ops.Greater t a b n e f = refl
length-binary ops.LessEqual t a b n e f = refl
length-binary ops.GreaterEqual t a b n e f = refl
length-binary ops.Plus t a b n e f = length-add a b false_lit n (e ∙ sym f) ∙ e
length-binary ops.Minus t a b n e f = length-sub a b n (e ∙ sym f) ∙ e
length-binary ops.Times t a b n e f = length-mul a b n (e ∙ sym f) ∙ e
length-binary ops.Divide t a b n e f = length-division parts.Quotient (is_signed t) a b n (e ∙ sym f) ∙ e
length-binary ops.Mod t a b n e f = length-division parts.Remainder (is_signed t) a b n (e ∙ sym f) ∙ e

length-conversion : (from to : Elementary) (a : List Lit) (n : Netlist) → length (conversion_of from to a n).word ≡ width_of to
length-conversion from to a n = by (bool_or_resizing to)
  where
    by : (to ≡ types.Bool) ⊎ IsResizing to → length (conversion_of from to a n).word ≡ width_of to
    by (inl e) = subst (λ (t : Elementary). length (conversion_of from t a n).word ≡ width_of t) (sym e) refl
    by (inr is) = rw (is.word from a n) (length-resized (is_signed from) (width_of to) a)

-- so many places are moved, at most as many as there are
length-up : (k : ℕ) (a : List Lit) → k < length a + 1 → length (zeros k ++ take (length a - k) a) ≡ length a
length-up k a h = omega (arith, length-append (zeros k) (take (length a - k) a), length-replicate k false_lit, length-take (length a - k) a)

length-down : (k : ℕ) (a : List Lit) → k < length a + 1 → length (drop k a ++ zeros k) ≡ length a
length-down k a h = omega (arith, length-append (drop k a) (zeros k), length-replicate k false_lit, length-drop k a)

length-turned : (k : ℕ) (a : List Lit) → length (drop k a ++ take k a) ≡ length a
length-turned k a = omega (arith, length-append (drop k a) (take k a), length-drop k a, length-take k a)

length-shift : (s : AnyShift) (k : ℕ) (a : List Lit) → length (shift_of s k a) ≡ length a
length-shift shifts.Left k a = length-up (min k (length a)) a (omega arith)
length-shift shifts.Right k a = length-down (min k (length a)) a (omega arith)
length-shift shifts.RotateLeft k a = length-turned (length a - k % length a) a
length-shift shifts.RotateRight k a = length-turned (k % length a) a

-- a node's word has the width of its type
pub length-node : (words : Words) (x : Node) (n : Netlist) → length (node_of words x n).word ≡ width_of (kind_of x)
length-node words (Constant t v) n = length-constant (width_of t) v
length-node words (Unary o t a) n = length-unary o (operand_of words t a) n ∙ length-operand words t a
length-node words (Binary o t a b) n = length-binary o t (operand_of words t a) (operand_of words t b) n (length-operand words t a) (length-operand words t b)
length-node words (Convert s t a) n = length-conversion s t (operand_of words s a) n
length-node words (Absolute t a) n = length-abs (is_signed t) (operand_of words t a) n ∙ length-operand words t a
length-node words (Minimum t a b) n =
    let less = lt_of (is_signed t) (operand_of words t b) (operand_of words t a) n in
    length-choose less.lit (operand_of words t b) (operand_of words t a) less.net (length-operand words t b ∙ sym (length-operand words t a)) ∙ length-operand words t b
length-node words (Maximum t a b) n =
    let less = lt_of (is_signed t) (operand_of words t a) (operand_of words t b) n in
    length-choose less.lit (operand_of words t b) (operand_of words t a) less.net (length-operand words t b ∙ sym (length-operand words t a)) ∙ length-operand words t b
length-node words (Shift s k t a) n = length-shift s k (operand_of words t a) ∙ length-operand words t a
length-node words (IsZero t a) n = refl
length-node words (Outside t r a) n = refl
length-node words (Mux t c a b) n =
    length-choose (top_of (operand_of words types.Bool c)) (operand_of words t a) (operand_of words t b) n (length-operand words t a ∙ sym (length-operand words t b)) ∙ length-operand words t a

pub HaveWidths-push : (ts : List Elementary) (words : Words) (t : Elementary) (w : List Lit) → HaveWidths ts words → length w ≡ width_of t → HaveWidths (ts ++ t ∷ []) (words ++ w ∷ [])
HaveWidths-push ts words t w h e =
    map-append (λ x. length x) words (w ∷ []) ∙ ap (λ ks. ks ++ length w ∷ []) h ∙ ap (λ k. map width_of ts ++ k ∷ []) e ∙ sym (map-append width_of ts (t ∷ []))

-- each word has the width of its type
pub widths_of_nodes : (ts : List Elementary) (xs : List Node) (words : Words) (n : Netlist) → HaveWidths ts words → HaveWidths (all_kinds ts xs) (words_of_nodes xs words n).words
widths_of_nodes ts [] words n h = subst (λ ks. HaveWidths ks words) (sym (append-nil ts)) h
widths_of_nodes ts (x ∷ xs) words n h =
    let m = node_of words x n in
    subst (λ ks. HaveWidths ks (words_of_nodes (x ∷ xs) words n).words) (append_assoc ts (kind_of x ∷ []) (map kind_of xs))
    (widths_of_nodes (ts ++ kind_of x ∷ []) xs (words ++ m.word ∷ []) m.net (HaveWidths-push ts words (kind_of x) m.word h (length-node words x n)))
