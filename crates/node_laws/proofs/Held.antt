-- Assignments in which each node has its value.
use Rattle.std.proofs.Common.{◌≡◌, ℕ, suc, ◌+◌, Bool, true, false, ◌||◌, ◌&&◌, refl, sym, ◌∙◌, ap, subst, List, [], ◌∷◌, ◌++◌, length, arith, ℤ}
use Rattle.std.proofs.Math.Bool.{or-false}
use Rattle.std.specs.Prelude.{if◌then◌else◌}
use Rattle.plc_types.specs.declared.elementary.Elementary.{Elementary}
use Rattle.plc_types.specs.declared.elementary.Elementary.TheVariants as types
use Rattle.plc_types.specs.declared.operator.Operator.{Operator}
use Rattle.plc_types.specs.declared.operator.Operator.TheVariants.{Or}
use Rattle.meaning.specs.Values.{number_of, is_zero, divides, divides_by_zero, applied}
use Rattle.node_core.specs.declared.node.Node.{Node}
use Rattle.node_core.specs.declared.node.Node.TheVariants.{Binary, IsZero}
use Rattle.node_core.specs.Nodes.{node_value, NodesHold}
use Rattle.node_core.specs.Words.{NodeList, Made, taken, made, faulted, joined}
use Rattle.node_laws.proofs.Ranges.{number_of-or}
use Rattle.node_core.proofs.Growth.{Grows, grows_made, grows_faulted}

NodesHold-front : (val : ℕ → ℤ) (w : ℕ) (xs ys : List Node) → NodesHold val w (xs ++ ys) → NodesHold val w xs
NodesHold-front val w [] ys h = tt
NodesHold-front val w (x ∷ xs) ys h = (h.0, NodesHold-front val (w + 1) xs ys h.1)

NodesHold-last : (val : ℕ → ℤ) (w : ℕ) (xs : List Node) (x : Node) → NodesHold val w (xs ++ x ∷ []) → val (w + length xs) ≡ node_value val x
NodesHold-last val w [] x h = ap val (zero_more w) ∙ h.0
  where
    zero_more : (w : ℕ) → w + 0 ≡ w
    zero_more w = omega arith
NodesHold-last val w (y ∷ ys) x h = ap val (one_more w (length ys)) ∙ NodesHold-last val (w + 1) ys x h.1
  where
    one_more : (w n : ℕ) → w + suc n ≡ w + 1 + n
    one_more w n = omega arith

-- each node that was made has its value
pub record Hold (val : ℕ → ℤ) (n : NodeList) : Type 0 where
  pub each : NodesHold val n.starts n.nodes

module _ (val : ℕ → ℤ) where
  pub hold_before : (n m : NodeList) → Grows n m → Hold val m → Hold val n
  hold_before n m g h = record {
    each = NodesHold-front val n.starts n.nodes g.more (subst (λ xs. NodesHold val n.starts xs) g.nodes (subst (λ w. NodesHold val w m.nodes) g.starts h.each));
  }

  pub value_made : (x : Node) (n : NodeList) → Hold val (made x n).list → val (made x n).word ≡ node_value val x
  unfolding made
  value_made x n h = NodesHold-last val n.starts n.nodes x h.each

  pub fault_made : (x : Node) (n : NodeList) → (made x n).list.fault ≡ n.fault
  unfolding made
  fault_made x n = refl

  -- FAULT is TRUE where it was, or where the word is
  pub value_faulted : (m : Made) (b c : Bool) → Hold val (faulted m) → val m.list.fault ≡ number_of b → val m.word ≡ number_of c → val (faulted m).fault ≡ number_of (b || c)
  unfolding faulted
  value_faulted m b c h is_b is_c =
      let f = made (Binary Or types.Bool m.list.fault m.word) m.list in
      let held : Hold val f.list = record { each = h.each } in
      value_made (Binary Or types.Bool m.list.fault m.word) m.list held ∙ ap (λ (x : ℤ). applied Or types.Bool x (val m.word)) is_b ∙ ap (λ (x : ℤ). applied Or types.Bool (number_of b) x) is_c ∙ number_of-or b c

  -- a word that has a value, and FAULT, which is TRUE or not
  pub record Gives (m : Made) (v : ℤ) (b : Bool) : Type 0 where
    pub word : val m.word ≡ v
    pub fault : val m.list.fault ≡ number_of b

  pub gives_made : (x : Node) (n : NodeList) (v : ℤ) (b : Bool) → Hold val (made x n).list → val n.fault ≡ number_of b → node_value val x ≡ v → Gives (made x n) v b
  gives_made x n v b h is_b is_v = record { word = value_made x n h ∙ is_v; fault = ap val (fault_made x n) ∙ is_b }

  pub gives_joined : (o : Operator) (t : Elementary) (a c : ℕ) (n : NodeList) (b : Bool) → Hold val (joined o t a c n).list → val n.fault ≡ number_of b
      → Gives (joined o t a c n) (applied o t (val a) (val c)) (b || divides_by_zero o (val c))
  unfolding joined
  gives_joined o t a c n b h is_b = by_test (divides o) h
    where
      m : Made
      m = made (Binary o t a c) n

      z : Made
      z = made (IsZero t c) m.list

      by_test : (test : Bool) → Hold val (if test then taken m.word (faulted z) else m).list → Gives (if test then taken m.word (faulted z) else m) (applied o t (val a) (val c)) (b || (test && is_zero (val c)))
      by_test true h =
          let held_z = hold_before z.list (faulted z) (grows_faulted z) h in
          let held_m = hold_before m.list z.list (grows_made (IsZero t c) m.list) held_z in
          record {
            word = value_made (Binary o t a c) n held_m;
            fault = value_faulted z b (is_zero (val c)) h (ap val (fault_made (IsZero t c) m.list) ∙ ap val (fault_made (Binary o t a c) n) ∙ is_b) (value_made (IsZero t c) m.list held_z);
          }
      by_test false h = record { word = value_made (Binary o t a c) n h; fault = ap val (fault_made (Binary o t a c) n) ∙ is_b ∙ ap number_of (sym (or-false b)) }
