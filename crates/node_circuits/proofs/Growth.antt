-- Nodes only add gates.
use Rattle.std.proofs.Common.{◌≡◌, ℕ, ◌+◌, ◌<◌, sym, ◌∙◌, ap, subst, Bool, List, [], ◌∷◌, ◌++◌, length, drop, get_or}
use Rattle.std.specs.Prelude.{Vec}
use Rattle.std.specs.declared.alloc.Global.{Global}
use Rattle.std.proofs.lemmas.List.{at_drop_more}
use Rattle.clause_core.specs.declared.literal.Lit.{Lit}
use Rattle.plc_types.specs.declared.elementary.Elementary.{Elementary}
use Rattle.plc_types.specs.declared.elementary.Elementary.TheVariants as types
use Rattle.plc_types.specs.declared.operator.Operator.{Operator}
use Rattle.plc_types.specs.declared.operator.Operator.TheVariants as ops
use Rattle.plc_types.specs.declared.operator.UnaryOperator.{UnaryOperator}
use Rattle.plc_types.specs.declared.operator.UnaryOperator.TheVariants as signs
use Rattle.plc_types.specs.Types.{is_signed}
use Rattle.node_core.specs.declared.node.Node.{Node}
use Rattle.node_core.specs.declared.node.Node.TheVariants.{Constant, Unary, Binary, Convert, Absolute, Minimum, Maximum, Shift, IsZero, Outside, Mux}
use Rattle.gates.specs.Literals.{true_lit, false_lit}
use Rattle.gates.specs.Netlists.{Netlist, IsExtensionOf}
use Rattle.gates.proofs.Growth.{extends_self, extends_then}
use Rattle.word_circuits.specs.declared.bits.BitOperator.TheVariants as bits
use Rattle.word_circuits.specs.declared.comparisons.Comparison.TheVariants as comparisons
use Rattle.word_circuits.specs.declared.divide.Part.TheVariants as parts
use Rattle.word_circuits.specs.Words.{zeros, top_of}
use Rattle.word_circuits.proofs.Growth.{extends_add, extends_sub, extends_neg, extends_bitwise, extends_eq_from, extends_comparison, extends_outside, extends_choose, extends_min, extends_max, extends_abs, extends_mul_from, extends_division, extends_any_from}
use Rattle.node_circuits.specs.Rows.{unary_of, binary_of, conversion_of}
use Rattle.node_circuits.specs.NodeWords.{Words, words_view, operand_of, node_of, MadeWords, words_of_nodes}

pub extends_unary : (o : UnaryOperator) (a : List Lit) (n : Netlist) → IsExtensionOf n (unary_of o a n).net
extends_unary signs.Minus a n = extends_neg a n
extends_unary signs.Not a n = extends_self n

pub extends_binary : (o : Operator) (s : Bool) (a b : List Lit) (n : Netlist) → IsExtensionOf n (binary_of o s a b n).net
extends_binary ops.Or s a b n = extends_bitwise bits.Or a b n
extends_binary ops.Xor s a b n = extends_bitwise bits.Xor a b n
extends_binary ops.And s a b n = extends_bitwise bits.And a b n
extends_binary ops.Equal s a b n = extends_comparison comparisons.Equal s a b n
extends_binary ops.NotEqual s a b n = extends_comparison comparisons.NotEqual s a b n
extends_binary ops.Less s a b n = extends_comparison comparisons.Less s a b n
extends_binary ops.Greater s a b n = extends_comparison comparisons.Greater s a b n
extends_binary ops.LessEqual s a b n = extends_comparison comparisons.LessOrEqual s a b n
extends_binary ops.GreaterEqual s a b n = extends_comparison comparisons.GreaterOrEqual s a b n
extends_binary ops.Plus s a b n = extends_add a b false_lit n
extends_binary ops.Minus s a b n = extends_sub a b n
extends_binary ops.Times s a b n = extends_mul_from a 0 b (zeros (length a)) n
extends_binary ops.Divide s a b n = extends_division parts.Quotient s a b n
extends_binary ops.Mod s a b n = extends_division parts.Remainder s a b n

pub extends_conversion : (from to : Elementary) (a : List Lit) (n : Netlist) → IsExtensionOf n (conversion_of from to a n).net
extends_conversion from types.Bool a n = extends_any_from false_lit a n
extends_conversion from _ a n = extends_self n

pub extends_node : (words : Words) (x : Node) (n : Netlist) → IsExtensionOf n (node_of words x n).net
extends_node words (Constant t v) n = extends_self n
extends_node words (Unary o t a) n = extends_unary o (operand_of words t a) n
extends_node words (Binary o t a b) n = extends_binary o (is_signed t) (operand_of words t a) (operand_of words t b) n
extends_node words (Convert s t a) n = extends_conversion s t (operand_of words s a) n
extends_node words (Absolute t a) n = extends_abs (is_signed t) (operand_of words t a) n
extends_node words (Minimum t a b) n = extends_min (is_signed t) (operand_of words t a) (operand_of words t b) n
extends_node words (Maximum t a b) n = extends_max (is_signed t) (operand_of words t a) (operand_of words t b) n
extends_node words (Shift s places t a) n = extends_self n
extends_node words (IsZero t a) n = let w = operand_of words t a in extends_eq_from true_lit w (zeros (length w)) n
extends_node words (Outside t r a) n = extends_outside (is_signed t) (operand_of words t a) r.low r.high n
extends_node words (Mux t c a b) n = extends_choose (top_of (operand_of words types.Bool c)) (operand_of words t a) (operand_of words t b) n

pub extends_nodes : (xs : List Node) (words : Words) (n : Netlist) → IsExtensionOf n (words_of_nodes xs words n).net
extends_nodes [] words n = extends_self n
extends_nodes (x ∷ xs) words n =
    let m = node_of words x n in
    extends_then n m.net _ (extends_node words x n) (extends_nodes xs (words ++ m.word ∷ []) m.net)

-- one turn of the loop: what a node makes is a front of what is made of all that are left
pub nodes_turn : (xs : List Node) (i : ℕ) (d : Node) (given words : List (Vec Lit Global)) (n : Netlist) (all : MadeWords) → i < length xs → given ≡ words → words_of_nodes (drop i xs) (words_view words) n ≡ all
    → IsExtensionOf (node_of (words_view given) (get_or xs i d) n).net all.net
nodes_turn xs i d given words n all h same e =
    let m = node_of (words_view given) (get_or xs i d) n in
    subst (λ (w : MadeWords). IsExtensionOf m.net w.net)
    (sym (at_drop_more (λ (ys : List Node). words_of_nodes ys (words_view given) n) xs i d h) ∙ ap (λ (ws : List (Vec Lit Global)). words_of_nodes (drop i xs) (words_view ws) n) same ∙ e)
    (extends_nodes (drop (i + 1) xs) (words_view given ++ m.word ∷ []) m.net)
