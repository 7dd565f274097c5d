-- The values that typed nodes take in turn.
use Rattle.std.proofs.Common.{◌≡◌, ℕ, suc, ◌+◌, ◌<◌, refl, sym, ◌∙◌, ap, subst, List, [], ◌∷◌, ◌++◌, length, ℤ, pos, arith, length-append, append_assoc}
use Rattle.std.specs.Prelude.{slice_index_or, not, unsigned_abs, if◌then◌else◌}
use Rattle.std.proofs.lemmas.List.{get_or_append_left, get_or-append-add, append-nil}
use Rattle.std.proofs.lemmas.Option.{slice_get_within}
use Rattle.plc_types.specs.declared.elementary.Elementary.{Elementary}
use Rattle.plc_types.specs.declared.elementary.Elementary.TheVariants as types
use Rattle.plc_types.specs.Types.{width_of, wrap_to, in_range}
use Rattle.meaning.specs.Values.{State, number_of, is_truth, is_zero, unary_applied, applied, converted, shifted, lesser, greater}
use Rattle.node_core.specs.declared.node.Node.{Node}
use Rattle.node_core.specs.declared.node.Node.TheVariants.{Constant, Unary, Binary, Convert, Absolute, Minimum, Maximum, Shift, IsZero, Outside, Mux}
use Rattle.node_core.specs.Nodes.{node_value, WordsAre, NodesHold, value_in, all_values}
use Rattle.node_core.specs.NodeTypes.{kind_of, IsWordOf, IsTypedNode, AreTypedNodes}
use Rattle.node_core.specs.NodeLaws.{NodesTakeValues}

-- a node has one value where its operands have
module _ (ts : List Elementary) (v w : ℕ → ℤ) (same : (a : ℕ) → a < length ts → v a ≡ w a) where
  there : (t : Elementary) (a : ℕ) → IsWordOf ts t a → v a ≡ w a
  there t a is = same a (slice_get_within ts a t is)

  same_node : (x : Node) → IsTypedNode ts x → node_value v x ≡ node_value w x
  same_node (Constant t c) is = refl
  same_node (Unary o t a) is = ap (unary_applied o t) (there t a is)
  same_node (Binary o t a b) is = ap (λ (x : ℤ). applied o t x (v b)) (there t a is.1) ∙ ap (applied o t (w a)) (there t b is.2)
  same_node (Convert s t a) is = ap (λ (x : ℤ). wrap_to t (converted t x)) (there s a is)
  same_node (Absolute t a) is = ap (λ (x : ℤ). wrap_to t (pos (unsigned_abs x))) (there t a is)
  same_node (Minimum t a b) is = ap (λ (x : ℤ). lesser x (v b)) (there t a is.0) ∙ ap (lesser (w a)) (there t b is.1)
  same_node (Maximum t a b) is = ap (λ (x : ℤ). greater x (v b)) (there t a is.0) ∙ ap (greater (w a)) (there t b is.1)
  same_node (Shift s n t a) is = ap (λ (x : ℤ). wrap_to t (pos (shifted s (width_of t) n (unsigned_abs x)))) (there t a is.1)
  same_node (IsZero t a) is = ap (λ (x : ℤ). number_of (is_zero x)) (there t a is)
  same_node (Outside t r a) is = ap (λ (x : ℤ). number_of (not (in_range x r))) (there t a is.2)
  same_node (Mux t c a b) is =
      ap (λ (x : ℤ). if is_truth x then v a else v b) (there types.Bool c is.0) ∙ ap (λ (x : ℤ). if is_truth (w c) then x else v b) (there t a is.1) ∙ ap (λ (x : ℤ). if is_truth (w c) then w a else x) (there t b is.2)

-- the values stay in front
all_values-front : (vs : State) (xs : List Node) → (more : State) × (all_values vs xs ≡ vs ++ more)
all_values-front vs [] = ([], sym (append-nil vs))
all_values-front vs (x ∷ xs) =
    let v = node_value (value_in vs) x in
    let r = all_values-front (vs ++ v ∷ []) xs in
    (v ∷ r.0, r.1 ∙ append_assoc vs (v ∷ []) r.0)

value_in-front : (vs : State) (xs : List Node) (a : ℕ) → a < length vs → value_in (all_values vs xs) a ≡ value_in vs a
value_in-front vs xs a h =
    let r = all_values-front vs xs in
    ap (λ (us : State). slice_index_or us a (pos 0)) r.1 ∙ get_or_append_left vs r.0 (pos 0) a h

words_are : (val : ℕ → ℤ) (word : ℕ) (vs : State) → ((i : ℕ) → i < length vs → val (word + i) ≡ slice_index_or vs i (pos 0)) → WordsAre val word vs
words_are val word [] each = tt
words_are val word (v ∷ vs) each = (ap val (plus_none word) ∙ each 0 (omega arith), words_are val (word + 1) vs (λ i h. ap val (plus_one word i) ∙ each (suc i) (omega arith)))
  where
    plus_none : (w : ℕ) → w ≡ w + 0
    plus_none w = omega arith

    plus_one : (w i : ℕ) → w + 1 + i ≡ w + suc i
    plus_one w i = omega arith

nodes_hold : (xs : List Node) (ts : List Elementary) (vs : State) → AreTypedNodes ts xs → length ts ≡ length vs → NodesHold (value_in (all_values vs xs)) (length vs) xs
nodes_hold [] ts vs are long = tt
nodes_hold (x ∷ xs) ts vs are long =
    let v = node_value (value_in vs) x in
    let us = vs ++ v ∷ [] in
    let more : length vs < length us = omega (arith, length-append vs (v ∷ [])) in
    let here : value_in us (length vs) ≡ v = ap (λ i. slice_index_or us i (pos 0)) (plus_none (length vs)) ∙ get_or-append-add vs (v ∷ []) 0 (pos 0) in
    let kept = λ (a : ℕ) (h : a < length ts). sym (value_in-front us xs a (omega (arith, long, length-append vs (v ∷ []))) ∙ get_or_append_left vs (v ∷ []) (pos 0) a (omega (arith, long))) in
    let first = value_in-front us xs (length vs) more ∙ here ∙ same_node ts (value_in vs) (value_in (all_values us xs)) kept x are.0 in
    (first, subst (λ w. NodesHold (value_in (all_values us xs)) w xs) (length-append vs (v ∷ [])) (nodes_hold xs (ts ++ kind_of x ∷ []) us are.1 (length-append ts (kind_of x ∷ []) ∙ ap (λ n. n + 1) long ∙ sym (length-append vs (v ∷ [])))))
  where
    plus_none : (n : ℕ) → n ≡ n + 0
    plus_none n = omega arith

pub take_values : NodesTakeValues
take_values ts s xs are long =
    (words_are (value_in (all_values s xs)) 0 s (λ i h. ap (value_in (all_values s xs)) (none_plus i) ∙ value_in-front s xs i h), nodes_hold xs ts s are long)
  where
    none_plus : (i : ℕ) → 0 + i ≡ i
    none_plus i = omega arith
