-- The numbers of POUs among those that may be called.
use Rattle.std.proofs.Common.{◌≡◌, ℕ, zero, suc, ◌+◌, ◌<◌, Bool, true, false, ◌&&◌, List, [], ◌∷◌, ◌++◌, length, map, get_or, set, replicate, refl, sym, ap, ◌∙◌, arith, subst, ⊎_elim, inr, append_assoc}
use Rattle.std.specs.Prelude.{filter}
use Rattle.std.proofs.lemmas.List.{length-append, length-map, length-set, length-replicate, get_or-set_same, get_or-set_other}
use Rattle.std.proofs.Math.Seq.{get_or-append_seam}
use Rattle.std.proofs.lemmas.Bool.{cases_Bool, both_ways}
use Rattle.call_order.specs.Marks.{is_marked}
use Rattle.call_order.specs.Uses.{Reaches, directly, uses_at, is_among, order_of}
use Rattle.call_order.proofs.Circles.{reaches-step}
use Rattle.call_order.proofs.Filters.{is_among-filter}
use Rattle.call_order.proofs.Members.{is_among-right, is_among-head, is_among-tail, is_among-parts}
use Rattle.call_order.proofs.Orders.{behind_uses, only_once, below_length, each_in}
use Rattle.source_tree.specs.Syntax.{FileData}
use Rattle.naming.specs.Broken.{is_program_pou}
use Rattle.naming.specs.Circles.{uses_in, uses_of}
use Rattle.naming.specs.FileScope.{pous_of, pou_type_at}
use Rattle.typing.specs.Reached.{reached, reached_order}
use Rattle.typing.specs.Members.{may_be_called, called_order, numbered, numbers_of, called_number}
use Rattle.reach_laws.proofs.ReachedLaws.{IsReachedBy, reached_exact}
use Rattle.typed_cells.specs.Premises.{IsOrdered}

-- ---- numbers along a list

stays : (numbers : List ℕ) (n k : ℕ) (ks : List ℕ) → is_among k ks ≡ false → get_or (numbered numbers n ks) k 0 ≡ get_or numbers k 0
stays numbers n k [] out = refl
stays numbers n k (q ∷ ks) out =
    let differs : k ≡ q → ⊥ = λ same. both_ways _ out (subst (λ (m : ℕ). is_among k (m ∷ ks) ≡ true) same (is_among-head k ks)) in
    let rest : is_among k ks ≡ false = ⊎_elim (λ (is : is_among k ks ≡ true). absurd (both_ways _ out (is_among-tail k q ks is))) (λ (is : is_among k ks ≡ false). is) (cases_Bool (is_among k ks)) in
    stays (set numbers q n) (n + 1) k ks rest ∙ get_or-set_other numbers q k n 0 differs

numbered_at : (before : List ℕ) (k : ℕ) (behind numbers : List ℕ) (n : ℕ) → k < length numbers → is_among k behind ≡ false → get_or (numbered numbers n (before ++ k ∷ behind)) k 0 ≡ n + length before
numbered_at [] k behind numbers n low out = stays (set numbers k n) (n + 1) k behind out ∙ get_or-set_same numbers k n 0 low ∙ omega arith
numbered_at (q ∷ before) k behind numbers n low out =
    let same = length-set numbers q n in
    let rest = numbered_at before k behind (set numbers q n) (n + 1) (omega (arith, low, same)) out in
    rest ∙ omega arith

-- ---- filters

append_by : (test : ℕ → Bool) (x : ℕ) (xs ys : List ℕ) (b : Bool) → test x ≡ b → filter test (xs ++ ys) ≡ filter test xs ++ filter test ys → filter test (x ∷ (xs ++ ys)) ≡ filter test (x ∷ xs) ++ filter test ys
append_by test x xs ys true is rest = rw is (ap (λ (l : List ℕ). x ∷ l) rest)
append_by test x xs ys false is rest = rw is rest

filter_append : (test : ℕ → Bool) (xs ys : List ℕ) → filter test (xs ++ ys) ≡ filter test xs ++ filter test ys
filter_append test [] ys = refl
filter_append test (x ∷ xs) ys = append_by test x xs ys (test x) refl (filter_append test xs ys)

filter_first : (test : ℕ → Bool) (x : ℕ) (xs : List ℕ) → test x ≡ true → filter test (x ∷ xs) ≡ x ∷ filter test xs
filter_first test x xs is = rw is refl

filter_at : (test : ℕ → Bool) (xs : List ℕ) (k : ℕ) (ys : List ℕ) → test k ≡ true → filter test (xs ++ k ∷ ys) ≡ filter test xs ++ k ∷ filter test ys
filter_at test xs k ys is = filter_append test xs (k ∷ ys) ∙ ap (λ (l : List ℕ). filter test xs ++ l) (filter_first test k ys is)

-- what a filter leaves, back in the list
record IsKept (test : ℕ → Bool) (xs : List ℕ) (k : ℕ) (c : List ℕ) : Type 0 where
  before : List ℕ
  behind : List ℕ
  split : xs ≡ before ++ k ∷ behind
  rest : filter test behind ≡ c
  passes : test k ≡ true

heads : (x y : ℕ) (xs ys : List ℕ) → (let l : List ℕ = x ∷ xs in l) ≡ y ∷ ys → (x ≡ y) × (xs ≡ ys)
heads x y xs ys is = (cc, cc)

nothing_left : (b : List ℕ) (k : ℕ) (c : List ℕ) → (let l : List ℕ = [] in l) ≡ b ++ k ∷ c → ⊥
nothing_left [] k c is = let h : ⊥ = cc in h
nothing_left (y ∷ b) k c is = let h : ⊥ = cc in h

filter_none : (test : ℕ → Bool) (x : ℕ) (xs : List ℕ) → test x ≡ false → filter test (x ∷ xs) ≡ filter test xs
filter_none test x xs is = rw is refl

kept_behind : (test : ℕ → Bool) (x : ℕ) (xs : List ℕ) (k : ℕ) (c : List ℕ) → IsKept test xs k c → IsKept test (x ∷ xs) k c
kept_behind test x xs k c more = record { before = x ∷ more.before; behind = more.behind; split = ap (λ (l : List ℕ). x ∷ l) more.split; rest = more.rest; passes = more.passes }

kept_by : (test : ℕ → Bool) (x : ℕ) (xs b : List ℕ) (k : ℕ) (c : List ℕ) (t : Bool) → test x ≡ t → ((d : List ℕ) → filter test xs ≡ d ++ k ∷ c → IsKept test xs k c) → filter test (x ∷ xs) ≡ b ++ k ∷ c → IsKept test (x ∷ xs) k c
kept_by test x xs [] k c true is rest same =
    let two = heads x k (filter test xs) c (sym (filter_first test x xs is) ∙ same) in
    record { before = []; behind = xs; split = ap (λ (n : ℕ). n ∷ xs) two.0; rest = two.1; passes = ap test (sym two.0) ∙ is }
kept_by test x xs (y ∷ b) k c true is rest same = kept_behind test x xs k c (rest b (heads x y (filter test xs) (b ++ k ∷ c) (sym (filter_first test x xs is) ∙ same)).1)
kept_by test x xs b k c false is rest same = kept_behind test x xs k c (rest b (sym (filter_none test x xs is) ∙ same))

kept_in : (test : ℕ → Bool) (xs b : List ℕ) (k : ℕ) (c : List ℕ) → filter test xs ≡ b ++ k ∷ c → IsKept test xs k c
kept_in test [] b k c same = absurd (nothing_left b k c same)
kept_in test (x ∷ xs) b k c same = kept_by test x xs b k c (test x) refl (λ d rest. kept_in test xs d k c rest) same

split_at : (xs : List ℕ) (n : ℕ) → n < length xs → (before : List ℕ) × (behind : List ℕ) × (xs ≡ before ++ get_or xs n 0 ∷ behind) × (length before ≡ n)
split_at [] n low = absurd (omega (arith, low))
split_at (x ∷ xs) zero low = ([], xs, refl, refl)
split_at (x ∷ xs) (suc n) low =
    let rest = split_at xs n (omega (arith, low)) in (x ∷ rest.0, rest.1, ap (λ (l : List ℕ). x ∷ l) rest.2, let same = rest.3 in omega (arith, same))

not_filtered : (test : ℕ → Bool) (k : ℕ) (xs : List ℕ) → is_among k xs ≡ false → is_among k (filter test xs) ≡ false
not_filtered test k xs out = is_among-filter test k xs ∙ ap (λ (b : Bool). b && test k) out

module _ (f : FileData) (ordered : IsOrdered f) where
  abbrev order : List ℕ
  order = order_of (uses_of f)

  -- those of some numbers that are reached and may be called
  abbrev may : ℕ → Bool
  may k = may_be_called (pou_type_at f k)

  abbrev calls : List ℕ → List ℕ
  calls ks = filter may (filter (is_marked (reached f)) ks)

  graph_length : length (uses_of f) ≡ length (pous_of f)
  graph_length = length-map (pous_of f) (uses_in f)

  pub in_order_of : (k : ℕ) → k < length (pous_of f) → is_among k order ≡ true
  in_order_of k low = let same = graph_length in each_in (uses_of f) (ordered ∙ sym same) k (omega (arith, same, low))

  -- what a reached POU uses is reached
  pub used_reached : (k u : ℕ) → is_marked (reached f) k ≡ true → is_among u (uses_at (uses_of f) k) ≡ true → is_marked (reached f) u ≡ true
  used_reached k u is uses =
      let from : IsReachedBy (uses_of f) (map is_program_pou (pous_of f)) k = (reached_exact f ordered k).0 is in
      (reached_exact f ordered u).1
      (⊎_elim (λ (first : is_marked (map is_program_pou (pous_of f)) k ≡ true). inr (k, first, directly k u uses))
      (λ (way : (start : ℕ) × (is_marked (map is_program_pou (pous_of f)) start ≡ true) × Reaches (uses_of f) start k). inr (way.0, way.1, reaches-step (uses_of f) way.0 k u way.2 uses)) from)

  never_again : (before behind : List ℕ) (k : ℕ) → order ≡ before ++ k ∷ behind → is_among k behind ≡ false
  never_again before behind k split =
      ⊎_elim
      (λ (is : is_among k behind ≡ true).
      let p = is_among-parts k behind is in
      let again : order ≡ (before ++ k ∷ p.0) ++ k ∷ p.1 = split ∙ ap (λ (l : List ℕ). before ++ k ∷ l) p.2 ∙ sym (append_assoc before (k ∷ p.0) (k ∷ p.1)) in
      absurd (both_ways _ (only_once (uses_of f) (before ++ k ∷ p.0) p.1 k again) (is_among-right k before (k ∷ p.0) (is_among-head k p.0))))
      (λ (is : is_among k behind ≡ false). is) (cases_Bool (is_among k behind))

  called_split : (before behind : List ℕ) (k : ℕ) → order ≡ before ++ k ∷ behind → is_marked (reached f) k ≡ true → may k ≡ true → called_order f ≡ calls before ++ k ∷ calls behind
  unfolding called_order reached_order
  called_split before behind k split is callable =
      ap calls split ∙ ap (filter may) (filter_at (is_marked (reached f)) before k behind is) ∙ filter_at may (filter (is_marked (reached f)) before) k (filter (is_marked (reached f)) behind) callable

  number_is : (before behind : List ℕ) (k : ℕ) → order ≡ before ++ k ∷ behind → is_marked (reached f) k ≡ true → may k ≡ true → called_number f k ≡ length (calls before)
  unfolding numbers_of
  number_is before behind k split is callable =
      let here : is_among k order ≡ true = subst (λ (l : List ℕ). is_among k l ≡ true) (sym split) (is_among-right k before (k ∷ behind) (is_among-head k behind)) in
      let below = below_length (uses_of f) k here in
      let zeros = length-replicate {A = ℕ} (length (pous_of f)) 0 in
      let same = graph_length in
      let out : is_among k (calls behind) ≡ false = not_filtered may k (filter (is_marked (reached f)) behind) (not_filtered (is_marked (reached f)) k behind (never_again before behind k split)) in
      let at = numbered_at (calls before) k (calls behind) (replicate (length (pous_of f)) 0) 0 (omega (arith, below, zeros, same)) out in
      ap (λ (l : List ℕ). get_or (numbered (replicate (length (pous_of f)) 0) 0 l) k 0) (called_split before behind k split is callable) ∙ at ∙ omega arith

  -- ---- a POU that is reached and may be called

  pub record IsCalled (k : ℕ) : Type 0 where
    pub below : called_number f k < length (called_order f)
    pub there : get_or (called_order f) (called_number f k) 0 ≡ k

  pub is_called : (k : ℕ) → k < length (pous_of f) → is_marked (reached f) k ≡ true → may k ≡ true → IsCalled k
  is_called k low is callable =
      let parts = is_among-parts k order (in_order_of k low) in
      let split = called_split parts.0 parts.1 k parts.2 is callable in
      let number = number_is parts.0 parts.1 k parts.2 is callable in
      let long : length (called_order f) ≡ length (calls parts.0) + length (k ∷ calls parts.1) = ap (λ (l : List ℕ). length l) split ∙ length-append (calls parts.0) (k ∷ calls parts.1) in
      record {
        below = omega (arith, number, long);
        there = ap (λ (n : ℕ). get_or (called_order f) n 0) number ∙ ap (λ (l : List ℕ). get_or l (length (calls parts.0)) 0) split ∙ get_or-append_seam (calls parts.0) k (calls parts.1) 0;
      }

  -- what a POU uses has a smaller number
  pub number_before : (k u : ℕ) → k < length (pous_of f) → is_marked (reached f) k ≡ true → may k ≡ true → is_among u (uses_at (uses_of f) k) ≡ true → may u ≡ true → called_number f u < called_number f k
  number_before k u low is callable uses may_u =
      let parts = is_among-parts k order (in_order_of k low) in
      let inside = is_among-parts u parts.0 (behind_uses (uses_of f) parts.0 parts.1 k u parts.2 uses) in
      let reached_u = used_reached k u is uses in
      let split_u : order ≡ inside.0 ++ u ∷ (inside.1 ++ k ∷ parts.1) = parts.2 ∙ ap (λ (l : List ℕ). l ++ k ∷ parts.1) inside.2 ∙ append_assoc inside.0 (u ∷ inside.1) (k ∷ parts.1) in
      let number = number_is parts.0 parts.1 k parts.2 is callable in
      let number_u = number_is inside.0 (inside.1 ++ k ∷ parts.1) u split_u reached_u may_u in
      let calls_of : calls parts.0 ≡ calls inside.0 ++ u ∷ calls inside.1 =
      ap calls inside.2 ∙ ap (filter may) (filter_at (is_marked (reached f)) inside.0 u inside.1 reached_u) ∙ filter_at may (filter (is_marked (reached f)) inside.0) u (filter (is_marked (reached f)) inside.1) may_u in
      let long : length (calls parts.0) ≡ length (calls inside.0) + length (u ∷ calls inside.1) = ap (λ (l : List ℕ). length l) calls_of ∙ length-append (calls inside.0) (u ∷ calls inside.1) in
      omega (arith, number, number_u, long)

  -- the POU of a number among those that may be called
  pub record IsNumbered (n k : ℕ) : Type 0 where
    pub below : k < length (pous_of f)
    pub marked : is_marked (reached f) k ≡ true
    pub callable : may k ≡ true
    pub number : called_number f k ≡ n

  called_parts : (before : List ℕ) (k : ℕ) (behind : List ℕ) → called_order f ≡ before ++ k ∷ behind → IsNumbered (length before) k
  unfolding called_order reached_order numbers_of
  called_parts before k behind split =
      let outer = kept_in may (filter (is_marked (reached f)) order) before k behind split in
      let inner = kept_in (is_marked (reached f)) order outer.before k outer.behind outer.split in
      let here : is_among k order ≡ true = subst (λ (l : List ℕ). is_among k l ≡ true) (sym inner.split) (is_among-right k inner.before (k ∷ inner.behind) (is_among-head k inner.behind)) in
      let below = subst (λ (m : ℕ). k < m) graph_length (below_length (uses_of f) k here) in
      let zeros = length-replicate {A = ℕ} (length (pous_of f)) 0 in
      let gone : is_among k (calls inner.behind) ≡ false = not_filtered may k (filter (is_marked (reached f)) inner.behind) (not_filtered (is_marked (reached f)) k inner.behind (never_again inner.before inner.behind k inner.split)) in
      let same : calls inner.behind ≡ behind = ap (filter may) inner.rest ∙ outer.rest in
      let out : is_among k behind ≡ false = subst (λ (l : List ℕ). is_among k l ≡ false) same gone in
      let at = numbered_at before k behind (replicate (length (pous_of f)) 0) 0 (omega (arith, below, zeros)) out in
      record {
        below = below;
        marked = inner.passes;
        callable = outer.passes;
        number = ap (λ (l : List ℕ). get_or (numbered (replicate (length (pous_of f)) 0) 0 l) k 0) split ∙ at ∙ omega arith;
      }

  pub numbered_pou : (n : ℕ) → n < length (called_order f) → IsNumbered n (get_or (called_order f) n 0)
  numbered_pou n low =
      let parts = split_at (called_order f) n low in
      subst (λ (m : ℕ). IsNumbered m (get_or (called_order f) n 0)) parts.3 (called_parts parts.0 (get_or (called_order f) n 0) parts.1 parts.2)
