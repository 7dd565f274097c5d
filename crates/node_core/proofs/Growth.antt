-- Nodes are only added: what was made stays in front.
use Rattle.std.proofs.Common.{◌≡◌, ℕ, ◌+◌, ◌≤◌, Bool, true, false, refl, sym, ◌∙◌, ap, List, [], ◌∷◌, ◌++◌, length, arith, length-append, append_assoc, Option, Some, None}
use Rattle.std.specs.Prelude.{if◌then◌else◌, nat_eq}
use Rattle.std.proofs.lemmas.List.{append-nil}
use Rattle.plc_types.specs.declared.elementary.Elementary.{Elementary}
use Rattle.plc_types.specs.declared.elementary.Elementary.TheVariants as types
use Rattle.plc_types.specs.declared.function.Function.{Function}
use Rattle.plc_types.specs.declared.function.Function.TheVariants as functions
use Rattle.plc_types.specs.declared.operator.Operator.{Operator}
use Rattle.program_tree.specs.Tree.{Expression, number, cell, unary, chain, call_standard, call_function, Operands, no_operands, operand, Expressions, no_expressions, expression}
use Rattle.program_tree.specs.declared.scratch.Scratch.{Scratch}
use Rattle.program_tree.specs.OperandTypes.{first_operand_kind, first_kind}
use Rattle.program_tree.specs.Places.{place_at}
use Rattle.meaning.specs.Values.{divides}
use Rattle.flat_core.specs.FlatTree.{FlatStatement, set, branch, FlatStatements, no_flats, flat}
use Rattle.node_core.specs.declared.node.Node.{Node}
use Rattle.node_core.specs.declared.node.Node.TheVariants.{Binary, IsZero, Maximum, Outside, Mux}
use Rattle.node_core.specs.Words.{NodeList, Made, Store, word_at, taken, made, faulted, joined, folded, of_one, of_many, limited_word, selected_word, called_word, word_of, word_on, words_of}
use Rattle.node_core.specs.Stores.{with_fault_of, with_word, tested_word, target_word, set_word, merged_word, merged, store_of, store_of_all}

-- a list of nodes begins with another, over the same start words
pub record Grows (n m : NodeList) : Type 0 where
  pub starts : m.starts ≡ n.starts
  pub more : List Node
  pub nodes : m.nodes ≡ n.nodes ++ more

pub grows_none : (n : NodeList) → Grows n n
grows_none n = record { starts = refl; more = []; nodes = sym (append-nil n.nodes) }

pub grows_both : (n m k : NodeList) → Grows n m → Grows m k → Grows n k
grows_both n m k a b = record {
  starts = b.starts ∙ a.starts;
  more = a.more ++ b.more;
  nodes = b.nodes ∙ ap (λ z. z ++ b.more) a.nodes ∙ append_assoc n.nodes a.more b.more;
}

pub longer : (n m : NodeList) → Grows n m → length n.nodes ≤ length m.nodes
longer n m g = omega (arith, ap length g.nodes, length-append n.nodes g.more)

-- ---- expressions

pub grows_made : (x : Node) (n : NodeList) → Grows n (made x n).list
unfolding made
grows_made x n = record { starts = refl; more = x ∷ []; nodes = refl }

pub grows_faulted : (m : Made) → Grows m.list (faulted m)
unfolding faulted
grows_faulted m =
    let g = grows_made (Binary _ types.Bool m.list.fault m.word) m.list in
    record { starts = g.starts; more = g.more; nodes = g.nodes }

pub grows_joined : (o : Operator) (t : Elementary) (a b : ℕ) (n : NodeList) → Grows n (joined o t a b n).list
unfolding joined
grows_joined o t a b n = by_test (divides o)
  where
    m : Made
    m = made (Binary o t a b) n

    by_test : (test : Bool) → Grows n (if test then taken m.word (faulted (made (IsZero t b) m.list)) else m).list
    by_test true = grows_both n m.list _ (grows_made _ n) (grows_both m.list (made (IsZero t b) m.list).list _ (grows_made _ _) (grows_faulted _))
    by_test false = grows_made _ n

pub grows_folded : (x : ℕ → ℕ → Node) (a : ℕ) (bs : List ℕ) (n : NodeList) → Grows n (folded x a bs n).list
grows_folded x a [] n = grows_none n
grows_folded x a (b ∷ bs) n = grows_both n (made (x a b) n).list _ (grows_made _ n) (grows_folded x (made (x a b) n).word bs (made (x a b) n).list)

grows_one : (x : ℕ → Node) (t : Elementary) (ws : List ℕ) (n : NodeList) → Grows n (of_one x t ws n).list
grows_one x t [] n = grows_made _ n
grows_one x t (a ∷ []) n = grows_made _ n
grows_one x t (a ∷ b ∷ ws) n = grows_made _ n

grows_many : (x : ℕ → ℕ → Node) (t : Elementary) (ws : List ℕ) (n : NodeList) → Grows n (of_many x t ws n).list
grows_many x t [] n = grows_made _ n
grows_many x t (a ∷ ws) n = grows_folded x a ws n

grows_limited : (t : Elementary) (ws : List ℕ) (n : NodeList) → Grows n (limited_word t ws n).list
grows_limited t [] n = grows_made _ n
grows_limited t (a ∷ []) n = grows_made _ n
grows_limited t (a ∷ b ∷ []) n = grows_made _ n
grows_limited t (a ∷ b ∷ c ∷ []) n = grows_both n (made (Maximum t b a) n).list _ (grows_made _ n) (grows_made _ _)
grows_limited t (a ∷ b ∷ c ∷ d ∷ ws) n = grows_made _ n

grows_selected : (t : Elementary) (ws : List ℕ) (n : NodeList) → Grows n (selected_word t ws n).list
grows_selected t [] n = grows_made _ n
grows_selected t (a ∷ []) n = grows_made _ n
grows_selected t (a ∷ b ∷ []) n = grows_made _ n
grows_selected t (a ∷ b ∷ c ∷ []) n = grows_made _ n
grows_selected t (a ∷ b ∷ c ∷ d ∷ ws) n = grows_made _ n

pub grows_called : (f : Function) (t : Elementary) (ws : List ℕ) (n : NodeList) → Grows n (called_word f t ws n).list
unfolding called_word
grows_called (functions.Convert from) t ws n = grows_one _ t ws n
grows_called functions.Absolute t ws n = grows_one _ t ws n
grows_called functions.Minimum t ws n = grows_many _ t ws n
grows_called functions.Maximum t ws n = grows_many _ t ws n
grows_called functions.Limit t ws n = grows_limited t ws n
grows_called functions.Select t ws n = grows_selected t ws n
grows_called (functions.Shift s k) t ws n = grows_one _ t ws n

mutual
  pub grows_word : (store : Store) (t : Elementary) (e : Expression) (n : NodeList) → Grows n (word_of store t e n).list
  grows_word store t (number v) n = grows_made _ n
  grows_word store t (cell place) n = grows_none n
  grows_word store t (unary o k e) n = grows_both n (word_of store k e n).list _ (grows_word store k e n) (grows_made _ _)
  grows_word store t (chain e os) n = grows_both n (word_of store (first_kind t os) e n).list _ (grows_word store (first_kind t os) e n) (grows_on store (word_of store (first_kind t os) e n).word os (word_of store (first_kind t os) e n).list)
  grows_word store t (call_standard f k es) n = grows_both n (words_of store (first_operand_kind f k) k es n).list _ (grows_words store (first_operand_kind f k) k es n) (grows_called f k _ _)
  grows_word store t (call_function f es) n = grows_made _ n

  pub grows_on : (store : Store) (a : ℕ) (os : Operands) (n : NodeList) → Grows n (word_on store a os n).list
  grows_on store a no_operands n = grows_none n
  grows_on store a (operand o k e os) n =
      let m = word_of store k e n in
      let j = joined o k a m.word m.list in
      grows_both n m.list _ (grows_word store k e n) (grows_both m.list j.list _ (grows_joined o k a m.word m.list) (grows_on store j.word os j.list))

  pub grows_words : (store : Store) (first others : Elementary) (es : Expressions) (n : NodeList) → Grows n (words_of store first others es n).list
  grows_words store first others no_expressions n = grows_none n
  grows_words store first others (expression e es) n = grows_both n (word_of store first e n).list _ (grows_word store first e n) (grows_words store others others es (word_of store first e n).list)

-- ---- statements

-- the word of FAULT is none of the nodes
pub grows_from : (store : Store) (n m : NodeList) → Grows (with_fault_of store n) m → Grows n m
grows_from store n m g = record { starts = g.starts; more = g.more; nodes = g.nodes }

pub grows_tested : (p : Scratch) (old a : ℕ) (n : NodeList) → Grows n (tested_word p old a n).list
unfolding tested_word
grows_tested p old a n =
    let out = made (Outside p.kind p.range a) n in
    grows_both n out.list _ (grows_made _ n) (grows_both out.list (faulted out) _ (grows_faulted out) (grows_made _ _))

pub grows_target : (p : Scratch) (held : Option ℕ) (a : ℕ) (n : NodeList) → Grows n (target_word p held a n).list
unfolding target_word
grows_target p None a n = grows_none n
grows_target p (Some old) a n = by_test p.is_subrange
  where
    by_test : (test : Bool) → Grows n (if test then tested_word p old a n else taken a n).list
    by_test true = grows_tested p old a n
    by_test false = grows_none n

pub grows_set : (ps : List Scratch) (place : ℕ) (e : Expression) (store : Store) (n : NodeList) → Grows n (set_word ps place e store n).list
grows_set ps place e store n =
    let m = word_of store (place_at ps place).kind e (with_fault_of store n) in
    grows_both n m.list _ (grows_from store n m.list (grows_word store (place_at ps place).kind e (with_fault_of store n))) (grows_target (place_at ps place) _ m.word m.list)

pub grows_merged_word : (p : Scratch) (c : ℕ) (held : Option ℕ) (a b : ℕ) (n : NodeList) → Grows n (merged_word p c held a b n).1
unfolding merged_word
grows_merged_word p c None a b n = grows_none n
grows_merged_word p c (Some w) a b n = by_test (nat_eq a b)
  where
    by_test : (test : Bool) → Grows n (if test then (let same : Option ℕ × NodeList = (Some a, n) in same) else (let m = made (Mux p.kind c a b) n in (Some m.word, m.list))).1
    by_test true = grows_none n
    by_test false = grows_made _ n

pub grows_merged : (ps : List Scratch) (c : ℕ) (on off : Store) (place : ℕ) (held : Store) (n : NodeList) → Grows n (merged ps c on off place held n).list
grows_merged ps c on off place [] n = grows_none n
grows_merged ps c on off place (w ∷ more) n =
    let m = merged_word (place_at ps place) c w (word_at on place) (word_at off place) n in
    grows_both n m.1 _ (grows_merged_word (place_at ps place) c w (word_at on place) (word_at off place) n) (grows_merged ps c on off (place + 1) more m.1)

mutual
  pub grows_store : (ps : List Scratch) (t : FlatStatement) (store : Store) (n : NodeList) → Grows n (store_of ps t store n).list
  grows_store ps (set place e) store n = grows_set ps place e store n
  grows_store ps (branch e a b) store n =
      let m = word_of store types.Bool e (with_fault_of store n) in
      let begun = with_word 0 m.list.fault store in
      let on = store_of_all ps a begun m.list in
      let off = store_of_all ps b begun on.list in
      grows_both n m.list _ (grows_from store n m.list (grows_word store types.Bool e (with_fault_of store n)))
      (grows_both m.list on.list _ (grows_all ps a begun m.list)
      (grows_both on.list off.list _ (grows_all ps b begun on.list) (grows_merged ps m.word on.store off.store 0 begun off.list)))

  pub grows_all : (ps : List Scratch) (ts : FlatStatements) (store : Store) (n : NodeList) → Grows n (store_of_all ps ts store n).list
  grows_all ps no_flats store n = grows_none n
  grows_all ps (flat t ts) store n =
      let r = store_of ps t store n in
      grows_both n r.list _ (grows_store ps t store n) (grows_all ps ts r.store r.list)
