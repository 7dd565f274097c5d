-- Stores that agree where they may be read agree behind each statement.
use Rattle.std.proofs.Common.{◌≡◌, ◌⊎◌, ℕ, zero, suc, ◌+◌, ◌-◌, ◌<◌, Bool, true, false, List, [], ◌∷◌, ◌++◌, length, take, ℤ, pos, refl, sym, ap, subst, ◌∙◌, inl, inr, arith, rules, tests, length-append, zero-add}
use Rattle.std.specs.Prelude.{slice_set, slice_index_or, if◌then◌else◌, nat_lt}
use Rattle.std.proofs.lemmas.List.{length-set, length-map}
use Rattle.plc_types.specs.declared.range.Range.{Range}
use Rattle.plc_types.specs.Types.{in_range}
use Rattle.program_tree.specs.Tree.{Expression, number, cell, unary, chain, call_standard, call_function, Operands, no_operands, operand, Expressions, no_expressions, expression, CellData}
use Rattle.program_tree.specs.declared.scratch.Scratch.{Scratch}
use Rattle.scan_model.specs.meaning.Values.{State, no_callees, value_of, value_on, values_of, faults, any_faults, one_faults, applied, is_truth}
use Rattle.scan_model.specs.meaning.Effects.{range_at, with_fault}
use Rattle.scan_model.specs.Scans.{ranges_of}
use Rattle.flat_core.specs.FlatTree.{FlatStatement, set, branch, FlatStatements, no_flats, flat}
use Rattle.flat_core.specs.FlatScans.{takes, placed, run_of, run_of_all}
use Rattle.flat_core.specs.FlatRules.{Reads, AllRead, EachReads, IsReadable, has_subrange, IsTakenNumber, MaySet, set_behind, IsFlatOver, AreFlatOver}
use Rattle.flat_core.specs.FlatLaws.{ScratchDoesNotCount}

-- ---- an expression has one value in stores that agree where it reads

module _ (P : ℕ → Type 0) (x y : State) (same : (p : ℕ) → P p → slice_index_or x p (pos 0) ≡ slice_index_or y p (pos 0)) where
  mutual
    same_value : (e : Expression) → Reads P e → value_of no_callees 0 e x ≡ value_of no_callees 0 e y
    same_value (number v) r = refl
    same_value (cell place) r = rw (zero-add place) (same place r)
    same_value (unary o t e) r = rw (same_value e r)
    same_value (chain e os) r = rw (same_value e r.0) (same_value_on (value_of no_callees 0 e y) os r.1)
    same_value (call_standard f t es) r = rw (same_values es r)
    same_value (call_function f es) r = absurd r

    same_value_on : (v : ℤ) (os : Operands) → AllRead P os → value_on no_callees 0 v os x ≡ value_on no_callees 0 v os y
    same_value_on v no_operands r = refl
    same_value_on v (operand o t e os) r = rw (same_value e r.0) (same_value_on (applied o t v (value_of no_callees 0 e y)) os r.1)

    same_values : (es : Expressions) → EachReads P es → values_of no_callees 0 es x ≡ values_of no_callees 0 es y
    same_values no_expressions r = refl
    same_values (expression e es) r = rw (same_value e r.0, same_values es r.1)

  mutual
    same_fault : (e : Expression) → Reads P e → faults no_callees 0 e x ≡ faults no_callees 0 e y
    same_fault (number v) r = refl
    same_fault (cell place) r = refl
    same_fault (unary o t e) r = same_fault e r
    same_fault (chain e os) r = rw (same_fault e r.0, same_faults os r.1)
    same_fault (call_standard f t es) r = same_faults_of es r
    same_fault (call_function f es) r = absurd r

    same_faults : (os : Operands) → AllRead P os → any_faults no_callees 0 os x ≡ any_faults no_callees 0 os y
    same_faults no_operands r = refl
    same_faults (operand o t e os) r = rw (same_fault e r.0, same_value e r.0, same_faults os r.1)

    same_faults_of : (es : Expressions) → EachReads P es → one_faults no_callees 0 es x ≡ one_faults no_callees 0 es y
    same_faults_of no_expressions r = refl
    same_faults_of (expression e es) r = rw (same_fault e r.0, same_faults_of es r.1)

-- ---- stores that agree

same_behind_set : (x y : State) (c p : ℕ) (v : ℤ) → length x ≡ length y → (p ≡ c) ⊎ (slice_index_or x p (pos 0) ≡ slice_index_or y p (pos 0)) → slice_index_or (slice_set x c v) p (pos 0) ≡ slice_index_or (slice_set y c v) p (pos 0)
same_behind_set [] [] c p v long h = refl
same_behind_set [] (b ∷ y) c p v long h = cc
same_behind_set (a ∷ x) [] c p v long h = cc
same_behind_set (a ∷ x) (b ∷ y) zero zero v long h = refl
same_behind_set (a ∷ x) (b ∷ y) zero (suc p) v long (inl e) = absurd (omega arith)
same_behind_set (a ∷ x) (b ∷ y) zero (suc p) v long (inr e) = e
same_behind_set (a ∷ x) (b ∷ y) (suc c) zero v long (inl e) = absurd (omega arith)
same_behind_set (a ∷ x) (b ∷ y) (suc c) zero v long (inr e) = e
same_behind_set (a ∷ x) (b ∷ y) (suc c) (suc p) v long (inl e) = same_behind_set x y c p v (omega arith) (inl (omega arith))
same_behind_set (a ∷ x) (b ∷ y) (suc c) (suc p) v long (inr e) = same_behind_set x y c p v (omega arith) (inr e)

record Agree (n : ℕ) (done : List ℕ) (x y : State) : Type 0 where
  long : length x ≡ length y
  same : (p : ℕ) → IsReadable n done p → slice_index_or x p (pos 0) ≡ slice_index_or y p (pos 0)

module _ (n : ℕ) where
  Agree-set : (done : List ℕ) (x y : State) (c : ℕ) (v : ℤ) → Agree n done x y → Agree n done (slice_set x c v) (slice_set y c v)
  Agree-set done x y c v a = record {
    long = length-set x c v ∙ a.long ∙ sym (length-set y c v);
    same = λ p r. same_behind_set x y c p v a.long (inr (a.same p r));
  }

  -- a place that was set is one more
  Agree-set_more : (done : List ℕ) (x y : State) (c : ℕ) (v : ℤ) → Agree n done x y → Agree n (c ∷ done) (slice_set x c v) (slice_set y c v)
  Agree-set_more done x y c v a = record {
    long = length-set x c v ∙ a.long ∙ sym (length-set y c v);
    same = λ p r. same_behind_set x y c p v a.long (known p r);
  }
    where
      known : (p : ℕ) → IsReadable n (c ∷ done) p → (p ≡ c) ⊎ (slice_index_or x p (pos 0) ≡ slice_index_or y p (pos 0))
      known p (inl below) = inr (a.same p (inl below))
      known p (inr (inl e)) = inl e
      known p (inr (inr is)) = inr (a.same p (inr is))

  -- and so is one that may be read already
  Agree-more : (done : List ℕ) (x y : State) (c : ℕ) → IsReadable n done c → Agree n done x y → Agree n (c ∷ done) x y
  Agree-more done x y c r a = record { long = a.long; same = λ p is. a.same p (known p is) }
    where
      known : (p : ℕ) → IsReadable n (c ∷ done) p → IsReadable n done p
      known p (inl below) = inl below
      known p (inr (inl e)) = subst (IsReadable n done) (sym e) r
      known p (inr (inr is)) = inr is

  Agree-with_fault : (done : List ℕ) (b : Bool) (x y : State) → Agree n done x y → Agree n done (with_fault b x) (with_fault b y)
  Agree-with_fault done true x y a = Agree-set done x y 0 (pos 1) a
  Agree-with_fault done false x y a = a

  Agree-behind : (t : FlatStatement) (done : List ℕ) (x y : State) → Agree n (set_behind t done) x y → Agree n done x y
  Agree-behind (set place e) done x y a = record { long = a.long; same = λ p is. a.same p (known p is) }
    where
      known : (p : ℕ) → IsReadable n done p → IsReadable n (place ∷ done) p
      known p (inl below) = inl below
      known p (inr is) = inr (inr is)
  Agree-behind (branch e a b) done x y agree = agree

  Agree-if : (done : List ℕ) (b : Bool) (x y z w : State) → (b ≡ true → Agree n done x z) → (b ≡ false → Agree n done y w) → Agree n done (if b then x else y) (if b then z else w)
  Agree-if done true x y z w p q = p refl
  Agree-if done false x y z w p q = q refl

-- ---- statements

free_takes : (cs : List Scratch) (c : ℕ) (v : ℤ) → has_subrange cs c ≡ false → takes cs c v ≡ true
free_takes [] c v h = refl
free_takes (s ∷ cs) zero v h = rw h
free_takes (s ∷ cs) (suc c) v h = free_takes cs c v h

number_takes : (cs : List Scratch) (c : ℕ) (e : Expression) (x : State) → IsTakenNumber cs c e → takes cs c (value_of no_callees 0 e x) ≡ true
number_takes cs c (number v) x h = h
number_takes cs c (cell place) x h = absurd h
number_takes cs c (unary o t e) x h = absurd h
number_takes cs c (chain e os) x h = absurd h
number_takes cs c (call_standard f t es) x h = absurd h
number_takes cs c (call_function f es) x h = absurd h

below_where : (c n : ℕ) → nat_lt c n ≡ true → c < n
below_where c n h = search (rules, tests)

module _ (rs : List Range) (cs : List Scratch) where
  -- a value that is refused leaves a place that may be read already
  refused_is_readable : (done : List ℕ) (place : ℕ) (e : Expression) (x : State) → MaySet (length rs) cs done place e → takes cs (place - length rs) (value_of no_callees 0 e x) ≡ false → IsReadable (length rs) done place
  refused_is_readable done place e x (inl r) h = r
  refused_is_readable done place e x (inr (inl free)) h = let two : true ≡ false = sym (free_takes cs (place - length rs) (value_of no_callees 0 e x) free) ∙ h in cc
  refused_is_readable done place e x (inr (inr taken)) h = let two : true ≡ false = sym (number_takes cs (place - length rs) e x taken) ∙ h in cc

  Agree-placed : (done : List ℕ) (place : ℕ) (e : Expression) (z x y : State) → MaySet (length rs) cs done place e → Agree (length rs) done x y → Agree (length rs) (place ∷ done) (placed rs cs place (value_of no_callees 0 e z) x) (placed rs cs place (value_of no_callees 0 e z) y)
  Agree-placed done place e z x y may a =
      let n = length rs in
      let v = value_of no_callees 0 e z in
      let kept = λ (r : IsReadable (length rs) done place). Agree-more n done _ _ place r (Agree-set n done x y 0 (pos 1) a) in
      Agree-if n (place ∷ done) (nat_lt place n) _ _ _ _
      (λ below. Agree-if n (place ∷ done) (in_range v (range_at rs place)) _ _ _ _ (λ _. Agree-set_more n done x y place v a) (λ _. kept (inl (below_where place n below))))
      (λ _. Agree-if n (place ∷ done) (takes cs (place - n) v) _ _ _ _ (λ _. Agree-set_more n done x y place v a) (λ refused. kept (refused_is_readable done place e z may refused)))

  mutual
    Agree-run_of : (t : FlatStatement) (done : List ℕ) (x y : State) → IsFlatOver (length rs) cs done t → Agree (length rs) done x y → Agree (length rs) (set_behind t done) (run_of rs cs t x) (run_of rs cs t y)
    Agree-run_of (set place e) done x y is a =
        let begun = Agree-with_fault (length rs) done (faults no_callees 0 e x) x y a in
        rw (sym (same_fault (IsReadable (length rs) done) x y a.same e is.1), sym (same_value (IsReadable (length rs) done) x y a.same e is.1)) (Agree-placed done place e x _ _ is.2 begun)
    Agree-run_of (branch e p q) done x y is a =
        let begun = Agree-with_fault (length rs) done (faults no_callees 0 e x) x y a in
        rw (sym (same_fault (IsReadable (length rs) done) x y a.same e is.0), sym (same_value (IsReadable (length rs) done) x y a.same e is.0))
        (Agree-if (length rs) done (is_truth (value_of no_callees 0 e x)) _ _ _ _ (λ _. Agree-run_of_all p done _ _ is.1 begun) (λ _. Agree-run_of_all q done _ _ is.2 begun))

    Agree-run_of_all : (ts : FlatStatements) (done : List ℕ) (x y : State) → AreFlatOver (length rs) cs done ts → Agree (length rs) done x y → Agree (length rs) done (run_of_all rs cs ts x) (run_of_all rs cs ts y)
    Agree-run_of_all no_flats done x y is a = a
    Agree-run_of_all (flat t ts) done x y is a = Agree-behind (length rs) t done _ _ (Agree-run_of_all ts (set_behind t done) _ _ is.1 (Agree-run_of t done x y is.0 a))

-- ---- scans

same_front : (x y : State) (n : ℕ) → length x ≡ length y → ((p : ℕ) → p < n → slice_index_or x p (pos 0) ≡ slice_index_or y p (pos 0)) → take n x ≡ take n y
same_front [] [] n long same = refl
same_front [] (b ∷ y) n long same = cc
same_front (a ∷ x) [] n long same = cc
same_front (a ∷ x) (b ∷ y) zero long same = refl
same_front (a ∷ x) (b ∷ y) (suc n) long same =
    let first : a ≡ b = same 0 (omega arith) in
    let later : take n x ≡ take n y = same_front x y n (omega arith) (λ p h. same (suc p) (omega arith)) in
    cc

same_in_front : (s x y : State) (p : ℕ) → p < length s → slice_index_or (s ++ x) p (pos 0) ≡ slice_index_or (s ++ y) p (pos 0)
same_in_front [] x y p h = absurd (omega arith)
same_in_front (v ∷ s) x y zero h = refl
same_in_front (v ∷ s) x y (suc p) h = same_in_front s x y p (omega arith)

pub agreeing_scans : ScratchDoesNotCount
agreeing_scans f is s x y s_long long =
    let rs = ranges_of f.cells in
    let n : length rs ≡ length f.cells = length-map f.cells (λ (c : CellData). c.range) in
    let rules_kept : AreFlatOver (length rs) f.scratch [] f.body = subst (λ m. AreFlatOver m f.scratch [] f.body) (sym n) is in
    let begun : Agree (length rs) [] (s ++ x) (s ++ y) = record {
      long = length-append s x ∙ ap (λ (m : ℕ). length s + m) long ∙ sym (length-append s y);
      same = λ p r. front p r;
    }
    in
    let ended = Agree-run_of_all rs f.scratch f.body [] (s ++ x) (s ++ y) rules_kept begun in
    same_front (run_of_all rs f.scratch f.body (s ++ x)) (run_of_all rs f.scratch f.body (s ++ y)) (length f.cells) ended.long (λ p h. ended.same p (inl (omega arith)))
  where
    front : (p : ℕ) → IsReadable (length (ranges_of f.cells)) [] p → slice_index_or (s ++ x) p (pos 0) ≡ slice_index_or (s ++ y) p (pos 0)
    front p (inl h) = let n : length (ranges_of f.cells) ≡ length f.cells = length-map f.cells (λ (c : CellData). c.range) in same_in_front s x y p (omega arith)
    front p (inr h) = absurd h
