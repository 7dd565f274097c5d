-- In every model of the circuit each node's word has the node's value.
use Rattle.std.proofs.Common.{◌≡◌, ℕ, ◌+◌, ◌<◌, Bool, refl, sym, ◌∙◌, ap, subst, List, [], ◌∷◌, ◌++◌, length, map, take, arith, append_assoc, length-append, ℤ}
use Rattle.std.specs.Prelude.{Option, slice_get, unwrap_or, not, pos, unsigned_abs, if◌then◌else◌}
use Rattle.std.proofs.Math.Seq.{take-append_seam}
use Rattle.clause_core.specs.declared.literal.Lit.{Lit}
use Rattle.plc_types.specs.declared.elementary.Elementary.{Elementary}
use Rattle.plc_types.specs.declared.elementary.Elementary.TheVariants as types
use Rattle.plc_types.specs.Types.{width_of, is_signed, in_range, wrap_to}
use Rattle.meaning.specs.Values.{number_of, is_truth, is_zero, unary_applied, applied, converted, shifted, lesser, greater}
use Rattle.node_core.specs.declared.node.Node.{Node}
use Rattle.node_core.specs.declared.node.Node.TheVariants.{Constant, Unary, Binary, Convert, Absolute, Minimum, Maximum, Shift, IsZero, Outside, Mux}
use Rattle.node_core.specs.Nodes.{node_value, NodesHold}
use Rattle.node_core.specs.NodeTypes.{kind_of, IsWordOf, IsTypedNode, AreTypedNodes, all_kinds}
use Rattle.gates.specs.Models.{IsModel}
use Rattle.gates.specs.Netlists.{Netlist}
use Rattle.gates.proofs.Growth.{IsModel-front}
use Rattle.word_laws.specs.Numbers.{value}
use Rattle.node_circuits.specs.NodeWords.{Words, word_in, operand_of, node_of, words_of_nodes}
use Rattle.node_circuits.proofs.Growth.{extends_nodes}
use Rattle.node_circuit_laws.specs.WordValues.{HaveWidths, type_in, value_at}
use Rattle.node_circuit_laws.proofs.Widths.{length-operand, length-node, HaveWidths-push}
use Rattle.node_circuit_laws.proofs.RowValues.{row-constant, row-unary, row-binary, row-conversion, row-absolute, row-minimum, row-maximum, row-shift, row-zero, row-outside, row-choice}
use Rattle.node_circuit_laws.proofs.Words.{get_front, get_seam, word_in-front, same_length, operand_same, begins_nodes, HasValues, HasValues-all, HasValues-front}

-- an operand has its word's value
operand_value : (v : ℕ → Bool) (val : ℕ → ℤ) (ts : List Elementary) (words : Words) (t : Elementary) (i : ℕ) → HaveWidths ts words → HasValues v val ts words → IsWordOf ts t i → value (is_signed t) v (operand_of words t i) ≡ val i
operand_value v val ts words t i e h is = ap (λ (w : List Lit). value (is_signed t) v w) (operand_same ts words t i e is) ∙ sym (h.at i t is)

-- the word of a typed node has its value
node_has_value : (v : ℕ → Bool) (val : ℕ → ℤ) (ts : List Elementary) (words : Words) (x : Node) (n : Netlist) → HaveWidths ts words → HasValues v val ts words → IsTypedNode ts x → IsModel v (node_of words x n).net
    → value (is_signed (kind_of x)) v (node_of words x n).word ≡ node_value val x
node_has_value v val ts words (Constant t k) n e h is m = row-constant t k v is m.one
node_has_value v val ts words (Unary o t a) n e h is m =
    row-unary o t v (operand_of words t a) n (length-operand words t a) m ∙ ap (unary_applied o t) (operand_value v val ts words t a e h is)
node_has_value v val ts words (Binary o t a b) n e h is m =
    row-binary o t v (operand_of words t a) (operand_of words t b) n is.0 (length-operand words t a) (length-operand words t b) m
    ∙ ap (λ (y : ℤ). applied o t y (value (is_signed t) v (operand_of words t b))) (operand_value v val ts words t a e h is.1) ∙ ap (applied o t (val a)) (operand_value v val ts words t b e h is.2)
node_has_value v val ts words (Convert s t a) n e h is m =
    row-conversion s t v (operand_of words s a) n (length-operand words s a) m ∙ ap (λ (y : ℤ). wrap_to t (converted t y)) (operand_value v val ts words s a e h is)
node_has_value v val ts words (Absolute t a) n e h is m =
    row-absolute t v (operand_of words t a) n (length-operand words t a) m ∙ ap (λ (y : ℤ). wrap_to t (pos (unsigned_abs y))) (operand_value v val ts words t a e h is)
node_has_value v val ts words (Minimum t a b) n e h is m =
    row-minimum t v (operand_of words t a) (operand_of words t b) n (length-operand words t a) (length-operand words t b) m
    ∙ ap (λ (y : ℤ). lesser y (value (is_signed t) v (operand_of words t b))) (operand_value v val ts words t a e h is.0) ∙ ap (lesser (val a)) (operand_value v val ts words t b e h is.1)
node_has_value v val ts words (Maximum t a b) n e h is m =
    row-maximum t v (operand_of words t a) (operand_of words t b) n (length-operand words t a) (length-operand words t b) m
    ∙ ap (λ (y : ℤ). greater y (value (is_signed t) v (operand_of words t b))) (operand_value v val ts words t a e h is.0) ∙ ap (greater (val a)) (operand_value v val ts words t b e h is.1)
node_has_value v val ts words (Shift s k t a) n e h is m =
    row-shift s k t v (operand_of words t a) is.0 (length-operand words t a) m.one
    ∙ ap (λ (y : ℤ). wrap_to t (pos (shifted s (width_of t) k (unsigned_abs y)))) (operand_value v val ts words t a e h is.1)
node_has_value v val ts words (IsZero t a) n e h is m =
    row-zero t v (operand_of words t a) n (length-operand words t a) m ∙ ap (λ (y : ℤ). number_of (is_zero y)) (operand_value v val ts words t a e h is)
node_has_value v val ts words (Outside t r a) n e h is m =
    row-outside t r v (operand_of words t a) n is.0 is.1 (length-operand words t a) m ∙ ap (λ (y : ℤ). number_of (not (in_range y r))) (operand_value v val ts words t a e h is.2)
node_has_value v val ts words (Mux t c a b) n e h is m =
    let w = operand_of words types.Bool c in
    row-choice t v w (operand_of words t a) (operand_of words t b) n (length-operand words types.Bool c) (length-operand words t a) (length-operand words t b) m
    ∙ ap (λ (y : ℤ). if is_truth y then value (is_signed t) v (operand_of words t a) else value (is_signed t) v (operand_of words t b)) (operand_value v val ts words types.Bool c e h is.0)
    ∙ ap (λ (y : ℤ). if is_truth (val c) then y else value (is_signed t) v (operand_of words t b)) (operand_value v val ts words t a e h is.1)
    ∙ ap (λ (y : ℤ). if is_truth (val c) then val a else y) (operand_value v val ts words t b e h is.2)

-- the word behind those that are there
next_value : (v : ℕ → Bool) (val : ℕ → ℤ) (ts : List Elementary) (words : Words) (t : Elementary) (w : List Lit) → length ts ≡ length words → HasValues v val (ts ++ t ∷ []) (words ++ w ∷ []) → val (length words) ≡ value (is_signed t) v w
next_value v val ts words t w e h =
    h.at (length words) t (ap (slice_get (ts ++ t ∷ [])) (sym e) ∙ get_seam ts t [])
    ∙ ap (λ (o : Option (List Lit)). value (is_signed t) v (unwrap_or o [])) (get_seam words w [])

nodes_hold : (v : ℕ → Bool) (val : ℕ → ℤ) (ts : List Elementary) (xs : List Node) (words : Words) (n : Netlist) → AreTypedNodes ts xs → HaveWidths ts words → IsModel v (words_of_nodes xs words n).net
    → HasValues v val (ts ++ map kind_of xs) (words_of_nodes xs words n).words → NodesHold val (length words) xs
nodes_hold v val ts [] words n are e m h = tt
nodes_hold v val ts (x ∷ xs) words n are e m h =
    let made = node_of words x n in
    let next = words ++ made.word ∷ [] in
    let all = (words_of_nodes (x ∷ xs) words n).words in
    let long = same_length ts words e in
    let wide = HaveWidths-push ts words (kind_of x) made.word e (length-node words x n) in
    let values : HasValues v val ((ts ++ kind_of x ∷ []) ++ map kind_of xs) all = subst (λ (ks : List Elementary). HasValues v val ks all) (sym (append_assoc ts (kind_of x ∷ []) (map kind_of xs))) h in
    let before = HasValues-front v val (ts ++ kind_of x ∷ []) (map kind_of xs) next all (same_length (ts ++ kind_of x ∷ []) next wide) (begins_nodes xs next made.net) values in
    let here = HasValues-front v val ts (kind_of x ∷ []) words next long (record { more = made.word ∷ []; is = refl }) before in
    let model : IsModel v made.net = IsModel-front v made.net (words_of_nodes (x ∷ xs) words n).net (extends_nodes xs next made.net) m in
    let one_more : length next ≡ length words + 1 = omega (arith, length-append words (made.word ∷ [])) in (
      next_value v val ts words (kind_of x) made.word long before ∙ node_has_value v val ts words x n e here are.0 model,
      subst (λ (k : ℕ). NodesHold val k xs) one_more (nodes_hold v val (ts ++ kind_of x ∷ []) xs next made.net are.1 wide m values),
    )

pub values_of_nodes : (ts : List Elementary) (xs : List Node) (words : Words) (n : Netlist) (v : ℕ → Bool) → AreTypedNodes ts xs → HaveWidths ts words → IsModel v (words_of_nodes xs words n).net
    → NodesHold (value_at v (all_kinds ts xs) (words_of_nodes xs words n).words) (length words) xs
values_of_nodes ts xs words n v are e m =
    let all = (words_of_nodes xs words n).words in
    nodes_hold v (value_at v (all_kinds ts xs) all) ts xs words n are e m (HasValues-all v (all_kinds ts xs) all)

-- ---- start words

pub starts_kept : (xs : List Node) (words : Words) (n : Netlist) → take (length words) (words_of_nodes xs words n).words ≡ words
starts_kept xs words n =
    let b = begins_nodes xs words n in
    ap (take (length words)) b.is ∙ take-append_seam words b.more

pub start_values : (ts : List Elementary) (xs : List Node) (words : Words) (n : Netlist) (v : ℕ → Bool) (i : ℕ) → HaveWidths ts words → i < length words
    → value_at v (all_kinds ts xs) (words_of_nodes xs words n).words i ≡ value_at v ts words i
start_values ts xs words n v i e h =
    let b = begins_nodes xs words n in
    let all = (words_of_nodes xs words n).words in
    let inside : i < length ts = omega (arith, same_length ts words e) in
    ap (λ (o : Option Elementary). value (is_signed (unwrap_or o types.Bool)) v (word_in all i)) (get_front ts (map kind_of xs) i inside)
    ∙ ap (λ (w : List Lit). value (is_signed (type_in ts i)) v w) (ap (λ (ws : Words). word_in ws i) b.is ∙ word_in-front words b.more i h)
