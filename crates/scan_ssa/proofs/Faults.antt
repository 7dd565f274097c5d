-- A fault of a step is one of the whole, since nodes are only added.
use Rattle.std.proofs.Common.{◌≡◌, ℕ, ◌≤◌, Bool, true, false, subst, List, [], ◌∷◌, length, Result, Option, Some, None, arith}
use Rattle.std.specs.Prelude.{slice_index_or, IfErr, Err, if◌then◌else◌}
use Rattle.plc_types.specs.declared.elementary.Elementary.{Elementary}
use Rattle.plc_types.specs.declared.operator.Operator.{Operator}
use Rattle.program_tree.specs.Tree.{Expression}
use Rattle.program_tree.specs.declared.scratch.Scratch.{Scratch}
use Rattle.meaning.specs.Values.{divides}
use Rattle.node_core.specs.declared.node.Node.TheVariants.{Binary, IsZero, Minimum, Maximum, Outside, Mux}
use Rattle.node_core.specs.Words.{NodeList, Made, Store, word_at, taken, made, faulted, joined, limited_word, word_of}
use Rattle.node_core.specs.Stores.{with_fault_of, tested_word, target_word}
use Rattle.node_core.proofs.Growth.{Grows, grows_none, grows_both, grows_made, grows_faulted, grows_target, longer}
use Rattle.scan_ssa.specs.declared.fault.NodeFault.{NodeFault}
use Rattle.scan_ssa.specs.declared.fault.NodeFault.TheVariants.{TooMany}
use Rattle.scan_ssa.specs.Making.{IsOver}

pub over_later : (limit : Option ℕ) (m n : ℕ) → m ≤ n → IsOver limit m → IsOver limit n
over_later None m n h over = over
over_later (Some k) m n h over = omega arith

-- what a step hands on; its limit is that of the whole
pub handed_on : {T : Type 0} (result : Result T NodeFault) (given fault : NodeFault) (limit here : Option ℕ) (small large : NodeList) → result ≡ Err given → given ≡ fault → here ≡ limit
    → (fault ≡ TooMany → IsOver here (length small.nodes)) → Grows small large → IfErr result (λ f. f ≡ TooMany → IsOver limit (length large.nodes))
handed_on result given fault limit here small large e f same over grows =
    rw (e, f) (λ many. over_later limit (length small.nodes) (length large.nodes) (longer small large grows) (subst (λ k. IsOver k (length small.nodes)) same (over many)))

-- ---- what a step makes is in front of the whole

pub joins_first : (o : Operator) (t : Elementary) (a b : ℕ) (n : NodeList) → Grows (made (Binary o t a b) n).list (joined o t a b n).list
unfolding joined
joins_first o t a b n = by_test (divides o)
  where
    m : Made
    m = made (Binary o t a b) n

    by_test : (test : Bool) → Grows m.list (if test then taken m.word (faulted (made (IsZero t b) m.list)) else m).list
    by_test true = grows_both m.list (made (IsZero t b) m.list).list _ (grows_made _ _) (grows_faulted _)
    by_test false = grows_none m.list

pub joins_second : (o : Operator) (t : Elementary) (a b : ℕ) (n list : NodeList) → list ≡ (made (Binary o t a b) n).list → divides o ≡ true → Grows (made (IsZero t b) list).list (joined o t a b n).list
unfolding joined
joins_second o t a b n list e d = rw (e, d) (grows_faulted (made (IsZero t b) (made (Binary o t a b) n).list))

pub limits_first : (t : Elementary) (ws : List ℕ) (n : NodeList) → length ws ≡ 3 → Grows (made (Maximum t (slice_index_or ws 1 0) (slice_index_or ws 0 0)) n).list (limited_word t ws n).list
limits_first t [] n h = cc
limits_first t (a ∷ []) n h = cc
limits_first t (a ∷ b ∷ []) n h = cc
limits_first t (low ∷ a ∷ high ∷ []) n h = grows_made (Minimum t (made (Maximum t a low) n).word high) (made (Maximum t a low) n).list
limits_first t (a ∷ b ∷ c ∷ d ∷ ws) n h = absurd (omega arith)

pub tests_first : (p : Scratch) (old a : ℕ) (n : NodeList) → Grows (made (Outside p.kind p.range a) n).list (tested_word p old a n).list
unfolding tested_word
tests_first p old a n =
    let out = made (Outside p.kind p.range a) n in
    grows_both out.list (faulted out) _ (grows_faulted out) (grows_made (Mux p.kind out.word old a) (faulted out))

pub tests_second : (p : Scratch) (old a w : ℕ) (n list : NodeList) → w ≡ (made (Outside p.kind p.range a) n).word → list ≡ (made (Outside p.kind p.range a) n).list → Grows (faulted (taken w list)) (tested_word p old a n).list
unfolding tested_word
tests_second p old a w n list e f = rw (e, f) (let out = made (Outside p.kind p.range a) n in grows_made (Mux p.kind out.word old a) (faulted out))

-- the word of an expression is in front of what its place makes of it
pub sets_first : (p : Scratch) (held : Option ℕ) (store : Store) (e : Expression) (n : NodeList) (w : ℕ) → w ≡ word_at store 0
    → Grows (word_of store p.kind e (record { starts = n.starts; nodes = n.nodes; fault = w })).list (let m = word_of store p.kind e (with_fault_of store n) in target_word p held m.word m.list).list
sets_first p held store e n w is = rw is (let m = word_of store p.kind e (with_fault_of store n) in grows_target p held m.word m.list)
