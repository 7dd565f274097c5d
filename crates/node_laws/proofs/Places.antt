-- Places of cells and scratch cells: what an assignment to one does, and which stores of words show which states.
use Rattle.std.proofs.Common.{◌≡◌, ◌≢◌, ◌⊎◌, inl, inr, ℕ, zero, suc, ◌+◌, ◌-◌, ◌<◌, ◌≤◌, Bool, true, false, not, ◌||◌, refl, sym, ◌∙◌, ap, subst, List, [], ◌∷◌, ◌++◌, length, map, ℤ, pos, arith, rules, tests, Option, Some, None}
use Rattle.std.proofs.Math.Bool.{or-false}
use Rattle.std.specs.Prelude.{◌==◌, if◌then◌else◌, nat_lt, slice_set, slice_index_or, unwrap_or, All}
use Rattle.std.proofs.lemmas.Int.{ints}
use Rattle.std.proofs.lemmas.List.{length-map, length-set, get_or-set_same, get_or-set_other, set-get_or, get_or-append-add, get_or_past}
use Rattle.plc_types.specs.declared.elementary.Elementary.TheVariants as types
use Rattle.plc_types.specs.declared.range.Range.{Range}
use Rattle.plc_types.specs.Types.{range_of, in_range}
use Rattle.plc_types.proofs.InRange.{bounds, between_in}
use Rattle.program_tree.specs.Tree.{Expression, number, cell, unary, chain, call_standard, call_function, CellData}
use Rattle.program_tree.specs.declared.scratch.Scratch.{Scratch}
use Rattle.program_tree.specs.Places.{of_cell, place_at, IsTypedPlace}
use Rattle.meaning.specs.Values.{State, number_of, is_truth, no_callees, value_of}
use Rattle.meaning.specs.Effects.{range_at, with_fault, stored}
use Rattle.scan_model.specs.Scans.{ranges_of}
use Rattle.flat_core.specs.FlatTree.{FlatStatement, set, branch}
use Rattle.flat_core.specs.FlatScans.{takes, placed}
use Rattle.flat_core.specs.FlatRules.{IsReadable, has_subrange, IsTakenNumber, MaySet, set_behind}
use Rattle.node_core.specs.Words.{Store, word_at}
use Rattle.node_core.specs.Stores.{with_word}
use Rattle.node_laws.proofs.Ranges.{number_of-in, zero_or_one}
use Rattle.node_laws.proofs.Expressions.{Known}

-- ---- places

nowhere : (v : ℤ) → in_range v (record { low = pos 1; high = pos 0 }) ≡ true → ⊥
nowhere v h = let b = bounds v (record { low = pos 1; high = pos 0 }) h in omega (arith, ints, b.0, b.1)

-- a value of a place's range is one of its type
pub typed_at : (ps : List Scratch) (place : ℕ) (v : ℤ) → All IsTypedPlace ps → in_range v (place_at ps place).range ≡ true → in_range v (range_of (place_at ps place).kind) ≡ true
typed_at ps place v typed h = by_place (nat_lt place (length ps)) refl
  where
    by_place : (test : Bool) → nat_lt place (length ps) ≡ test → in_range v (range_of (place_at ps place).kind) ≡ true
    by_place true e =
        let below : place < length ps = search (rules, tests) in
        let is = typed place (record { kind = types.Bool; range = record { low = pos 1; high = pos 0 }; is_subrange = false }) below in
        between_in (range_of (place_at ps place).kind) (place_at ps place).range v is.0 is.1 h
    by_place false e =
        let above : length ps ≤ place = search (rules, tests) in
        let none = get_or_past ps place (record { kind = types.Bool; range = record { low = pos 1; high = pos 0 }; is_subrange = false }) above in
        absurd (nowhere v (subst (λ (p : Scratch). in_range v p.range ≡ true) none h))

pub range_below : (cells : List CellData) (cs : List Scratch) (place : ℕ) → place < length cells → (place_at (map of_cell cells ++ cs) place).range ≡ range_at (ranges_of cells) place
range_below [] cs place h = absurd (omega arith)
range_below (c ∷ cells) cs zero h = refl
range_below (c ∷ cells) cs (suc place) h = range_below cells cs place (omega arith)

place_above : (cells : List CellData) (cs : List Scratch) (i : ℕ) → place_at (map of_cell cells ++ cs) (length cells + i) ≡ place_at cs i
place_above cells cs i =
    ap (λ n. place_at (map of_cell cells ++ cs) (n + i)) (sym (length-map cells of_cell))
    ∙ get_or-append-add (map of_cell cells) cs i (record { kind = types.Bool; range = record { low = pos 1; high = pos 0 }; is_subrange = false })

takes_at : (cs : List Scratch) (i : ℕ) (v : ℤ) → i < length cs → takes cs i v ≡ (not (place_at cs i).is_subrange || in_range v (place_at cs i).range)
takes_at [] i v h = absurd (omega arith)
takes_at (c ∷ cs) zero v h = refl
takes_at (c ∷ cs) (suc i) v h = takes_at cs i v (omega arith)

limited_at : (cs : List Scratch) (i : ℕ) → has_subrange cs i ≡ (place_at cs i).is_subrange
limited_at [] i = refl
limited_at (c ∷ cs) zero = refl
limited_at (c ∷ cs) (suc i) = limited_at cs i

-- a place takes a value; where it does not, that is a fault
unfoldable pub may_take : Scratch → ℤ → Bool
may_take p v = not p.is_subrange || in_range v p.range

unfoldable pub put : Scratch → ℕ → ℤ → State → State
put p place v s = if may_take p v then slice_set s place v else slice_set s 0 (pos 1)

module _ (cells : List CellData) (cs : List Scratch) where
  abbrev ps : List Scratch
  ps = map of_cell cells ++ cs

  -- an assignment of a value that lies in the range, or to a subrange
  pub placed_is : (place : ℕ) (v : ℤ) (s : State) → place < length cells + length cs → ((place_at (map of_cell cells ++ cs) place).is_subrange || in_range v (place_at (map of_cell cells ++ cs) place).range) ≡ true
      → placed (ranges_of cells) cs place v s ≡ put (place_at (map of_cell cells ++ cs) place) place v s
  unfolding put may_take
  placed_is place v s low h = by_place (nat_lt place (length (ranges_of cells))) refl
    where
      p : Scratch
      p = place_at ps place

      same : length (ranges_of cells) ≡ length cells
      same = length-map cells (λ (c : CellData). c.range)

      by_cell : (l r : Bool) (x y : State) → (l || r) ≡ true → (if r then x else y) ≡ (if not l || r then x else y)
      by_cell true r x y h = refl
      by_cell false true x y h = refl
      by_cell false false x y h = cc

      by_place : (test : Bool) → nat_lt place (length (ranges_of cells)) ≡ test
          → (if test then stored (ranges_of cells) place v s else (if takes cs (place - length (ranges_of cells)) v then slice_set s place v else slice_set s 0 (pos 1))) ≡ (if not p.is_subrange || in_range v p.range then slice_set s place v else slice_set s 0 (pos 1))
      by_place true e =
          let below : place < length (ranges_of cells) = search (rules, tests) in
          ap (λ (r : Range). if in_range v r then slice_set s place v else slice_set s 0 (pos 1)) (sym (range_below cells cs place (omega (arith, same)))) ∙ by_cell p.is_subrange (in_range v p.range) _ _ h
      by_place false e =
          let above : length (ranges_of cells) ≤ place = search (rules, tests) in
          let i : place ≡ length cells + (place - length (ranges_of cells)) = omega (arith, same) in
          let is : p ≡ place_at cs (place - length (ranges_of cells)) = ap (place_at ps) i ∙ place_above cells cs (place - length (ranges_of cells)) in
          ap (λ (b : Bool). if b then slice_set s place v else slice_set s 0 (pos 1)) (takes_at cs (place - length (ranges_of cells)) v (omega (arith, same)) ∙ ap (λ (q : Scratch). not q.is_subrange || in_range v q.range) (sym is))

  -- what may be set takes the value, or may be read already
  pub taken_or_readable : (done : List ℕ) (place : ℕ) (e : Expression) (s : State) → place < length cells + length cs → MaySet (length cells) cs done place e
      → (may_take (place_at (map of_cell cells ++ cs) place) (value_of no_callees 0 e s) ≡ true) ⊎ IsReadable (length cells) done place
  unfolding may_take
  taken_or_readable done place e s low (inl readable) = inr readable
  taken_or_readable done place e s low (inr or_free) = by_place (nat_lt place (length cells)) refl or_free
    where
      i : ℕ
      i = place - length cells

      number_takes : (e : Expression) → IsTakenNumber cs i e → takes cs i (value_of no_callees 0 e s) ≡ true
      number_takes (number v) h = h
      number_takes (cell place) h = absurd h
      number_takes (unary o t e) h = absurd h
      number_takes (chain e os) h = absurd h
      number_takes (call_standard f t es) h = absurd h
      number_takes (call_function f es) h = absurd h

      by_place : (test : Bool) → nat_lt place (length cells) ≡ test → (has_subrange cs i ≡ false) ⊎ IsTakenNumber cs i e
          → ((not (place_at ps place).is_subrange || in_range (value_of no_callees 0 e s) (place_at ps place).range) ≡ true) ⊎ IsReadable (length cells) done place
      by_place true h or_free = inr (inl (search (rules, tests)))
      by_place false h (inl free) =
          let above : length cells ≤ place = search (rules, tests) in
          let is : place ≡ length cells + i = omega arith in
          let at : place_at ps place ≡ place_at cs i = ap (place_at ps) is ∙ place_above cells cs i in
          inl (ap (λ (b : Bool). not b || in_range (value_of no_callees 0 e s) (place_at ps place).range) (ap (λ (q : Scratch). q.is_subrange) at ∙ sym (limited_at cs i) ∙ free))
      by_place false h (inr taken) =
          let above : length cells ≤ place = search (rules, tests) in
          let is : place ≡ length cells + i = omega arith in
          let at : place_at ps place ≡ place_at cs i = ap (place_at ps) is ∙ place_above cells cs i in
          inl (ap (λ (q : Scratch). not q.is_subrange || in_range (value_of no_callees 0 e s) q.range) at ∙ sym (takes_at cs i (value_of no_callees 0 e s) (omega arith)) ∙ number_takes e taken)

-- ---- stores of words that show states

-- a place holds a word that has the value of the state, which lies in its range
pub record Holds (val : ℕ → ℤ) (ps : List Scratch) (store : Store) (s : State) (place : ℕ) : Type 0 where
  pub word : ℕ
  pub is : slice_index_or store place None ≡ Some word
  pub value : val word ≡ slice_index_or s place (pos 0)
  pub inside : in_range (slice_index_or s place (pos 0)) (place_at ps place).range ≡ true

-- so does each place that may be read; the first cell is FAULT, a whole BOOL
pub record Shows (val : ℕ → ℤ) (ps : List Scratch) (n : ℕ) (done : List ℕ) (store : Store) (s : State) : Type 0 where
  pub long : length store ≡ length ps
  pub size : length s ≡ length ps
  pub holds : (p : ℕ) → IsReadable n done p → Holds val ps store s p

module _ (val : ℕ → ℤ) (ps : List Scratch) (n : ℕ) where
  pub word_is : (store : Store) (s : State) (place : ℕ) (h : Holds val ps store s place) → word_at store place ≡ h.word
  word_is store s place h = ap (λ (w : Option ℕ). unwrap_or w 0) h.is

  pub known : All IsTypedPlace ps → (done : List ℕ) (store : Store) (s : State) → Shows val ps n done store s → (p : ℕ) → IsReadable n done p → Known val ps store s p
  known typed done store s shows p r =
      let h = shows.holds p r in
      record { word = ap val (word_is store s p h) ∙ h.value; inside = h.inside; typed = typed_at ps p _ typed h.inside }

  pub shows_put : (done : List ℕ) (store : Store) (s : State) (place w : ℕ) (v : ℤ) → place < length ps → Shows val ps n done store s → val w ≡ v → in_range v (place_at ps place).range ≡ true
      → Shows val ps n (place ∷ done) (with_word place w store) (slice_set s place v)
  shows_put done store s place w v low shows is_v inside = record {
    long = length-set store place (Some w) ∙ shows.long;
    size = length-set s place v ∙ shows.size;
    holds = λ p r. by_place p r (p == place) refl;
  }
    where
      as_before : (p : ℕ) → p ≢ place → IsReadable n done p → Holds val ps (with_word place w store) (slice_set s place v) p
      as_before p other r =
          let h = shows.holds p r in
          let same : slice_index_or (slice_set s place v) p (pos 0) ≡ slice_index_or s p (pos 0) = get_or-set_other s place p v (pos 0) other in
          record {
            word = h.word;
            is = get_or-set_other store place p (Some w) None other ∙ h.is;
            value = h.value ∙ sym same;
            inside = ap (λ (x : ℤ). in_range x (place_at ps p).range) same ∙ h.inside;
          }

      by_place : (p : ℕ) → IsReadable n (place ∷ done) p → (test : Bool) → (p == place) ≡ test → Holds val ps (with_word place w store) (slice_set s place v) p
      by_place p r true e =
          let is : p ≡ place = search (rules, tests) in
          let long = shows.long in
          let size = shows.size in
          let at : slice_index_or (slice_set s place v) place (pos 0) ≡ v = get_or-set_same s place v (pos 0) (omega arith) in
          subst (λ q. Holds val ps (with_word place w store) (slice_set s place v) q) (sym is) (record {
            word = w;
            is = get_or-set_same store place (Some w) None (omega arith);
            value = is_v ∙ sym at;
            inside = ap (λ (x : ℤ). in_range x (place_at ps place).range) at ∙ inside;
          })
      by_place p (inl below) false e = as_before p (other p e) (inl below)
        where
          other : (p : ℕ) → (p == place) ≡ false → p ≢ place
          other p e is = let two : (p == place) ≡ true = search (rules, tests) in cc
      by_place p (inr (inl is)) false e = let two : (p == place) ≡ true = search (rules, tests) in cc
      by_place p (inr (inr is)) false e = as_before p (other p e) (inr is)
        where
          other : (p : ℕ) → (p == place) ≡ false → p ≢ place
          other p e is = let two : (p == place) ≡ true = search (rules, tests) in cc

  pub shows_less : (done more : List ℕ) (store : Store) (s : State) → ((p : ℕ) → IsReadable n done p → IsReadable n more p) → Shows val ps n more store s → Shows val ps n done store s
  shows_less done more store s less shows = record { long = shows.long; size = shows.size; holds = λ p r. shows.holds p (less p r) }

  pub shows_behind : (t : FlatStatement) (done : List ℕ) (store : Store) (s : State) → Shows val ps n (set_behind t done) store s → Shows val ps n done store s
  shows_behind (set place e) done store s shows = shows_less done (place ∷ done) store s less shows
    where
      less : (p : ℕ) → IsReadable n done p → IsReadable n (place ∷ done) p
      less p (inl below) = inl below
      less p (inr is) = inr (inr is)
  shows_behind (branch e a b) done store s shows = shows

-- FAULT is a whole BOOL, and stands first
pub record FaultFirst (ps : List Scratch) (n : ℕ) : Type 0 where
  pub some : 0 < n
  pub few : n ≤ length ps
  pub range : (place_at ps 0).range ≡ range_of types.Bool
  pub whole : (place_at ps 0).is_subrange ≡ false

module _ (val : ℕ → ℤ) (ps : List Scratch) (n : ℕ) (first : FaultFirst ps n) where
  unfoldable pub fault_at : State → Bool
  fault_at s = is_truth (slice_index_or s 0 (pos 0))

  pub fault_is : (done : List ℕ) (store : Store) (s : State) → Shows val ps n done store s → slice_index_or s 0 (pos 0) ≡ number_of (fault_at s)
  unfolding fault_at
  fault_is done store s shows =
      let h = shows.holds 0 (inl first.some) in
      zero_or_one _ (ap (λ (r : Range). in_range (slice_index_or s 0 (pos 0)) r) (sym first.range) ∙ h.inside)

  pub fault_word : (done : List ℕ) (store : Store) (s : State) → Shows val ps n done store s → val (word_at store 0) ≡ number_of (fault_at s)
  fault_word done store s shows =
      let h = shows.holds 0 (inl first.some) in
      ap val (word_is val ps n store s 0 h) ∙ h.value ∙ fault_is done store s shows

  -- a word for FAULT
  pub shows_fault : (done : List ℕ) (store : Store) (s : State) (w : ℕ) (b : Bool) → Shows val ps n done store s → val w ≡ number_of b → Shows val ps n done (with_word 0 w store) (slice_set s 0 (number_of b))
  shows_fault done store s w b shows is =
      let some = first.some in
      let few = first.few in
      shows_less val ps n done (0 ∷ done) _ _ less
      (shows_put val ps n done store s 0 w (number_of b) (omega arith) shows is (ap (λ (r : Range). in_range (number_of b) r) first.range ∙ number_of-in b))
    where
      less : (p : ℕ) → IsReadable n done p → IsReadable n (0 ∷ done) p
      less p (inl below) = inl below
      less p (inr is) = inr (inr is)

  pub fault_added : (s : State) (f : Bool) → slice_index_or s 0 (pos 0) ≡ number_of (fault_at s) → with_fault f s ≡ slice_set s 0 (number_of (fault_at s || f))
  fault_added s true is = ap (λ (b : Bool). slice_set s 0 (number_of b)) (sym (or_true (fault_at s)))
    where
      or_true : (b : Bool) → (b || true) ≡ true
      or_true true = refl
      or_true false = refl
  fault_added s false is = sym (ap (λ (b : Bool). slice_set s 0 (number_of b)) (or-false (fault_at s)) ∙ ap (λ (v : ℤ). slice_set s 0 v) (sym is) ∙ set-get_or s 0 (pos 0))
