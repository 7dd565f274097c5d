-- The words that a choice leaves, and those that statements leave.
use Rattle.std.proofs.Common.{◌≡◌, ℕ, zero, suc, ◌+◌, Bool, true, false, ◌||◌, refl, sym, ◌∙◌, ap, subst, List, [], ◌∷◌, ◌++◌, length, map, ℤ, arith, rules, tests, Option, Some, None}
use Rattle.std.specs.Prelude.{if◌then◌else◌, nat_eq, slice_index_or, All}
use Rattle.plc_types.specs.declared.elementary.Elementary.TheVariants as types
use Rattle.program_tree.specs.Tree.{CellData}
use Rattle.program_tree.specs.declared.scratch.Scratch.{Scratch}
use Rattle.program_tree.specs.Places.{of_cell, place_at, IsTypedPlace}
use Rattle.meaning.specs.Values.{State, is_truth, no_callees, faults}
use Rattle.meaning.specs.Effects.{with_fault}
use Rattle.scan_model.specs.Scans.{ranges_of}
use Rattle.flat_core.specs.FlatTree.{FlatStatement, set, branch, FlatStatements, no_flats, flat}
use Rattle.flat_core.specs.FlatScans.{run_of, run_of_all}
use Rattle.flat_core.specs.FlatRules.{IsReadable, set_behind, IsFlatOver, AreFlatOver}
use Rattle.node_core.specs.declared.node.Node.TheVariants.{Mux}
use Rattle.node_core.specs.Words.{NodeList, Store, word_at, made, word_of}
use Rattle.node_core.specs.Stores.{with_fault_of, with_word, merged_word, merged, store_of, store_of_all}
use Rattle.node_core.specs.TypedFlats.{IsTypedFlatOver, AreTypedFlatOver}
use Rattle.node_core.proofs.Growth.{grows_merged, grows_all}
use Rattle.node_laws.proofs.Held.{Hold, hold_before, value_made}
use Rattle.node_laws.proofs.Expressions.{gives}
use Rattle.node_laws.proofs.Places.{Holds, Shows, word_is, known, shows_behind, FaultFirst, fault_at, fault_is, fault_word, shows_fault, fault_added}
use Rattle.node_laws.proofs.Assignments.{shows_set}

-- a word that has one of two values
pub record Merged (val : ℕ → ℤ) (c a b : ℕ) (w : Option ℕ) : Type 0 where
  pub word : ℕ
  pub is : w ≡ Some word
  pub value : val word ≡ (if is_truth (val c) then val a else val b)

module _ (val : ℕ → ℤ) where
  merged_one : (p : Scratch) (c : ℕ) (held : Option ℕ) (w a b : ℕ) (n : NodeList) → held ≡ Some w → Hold val (merged_word p c held a b n).1 → Merged val c a b (merged_word p c held a b n).0
  unfolding merged_word
  merged_one p c None w a b n is h = cc
  merged_one p c (Some u) w a b n is h = by_test (nat_eq a b) refl h
    where
      same : (t : Bool) (x : ℤ) → x ≡ (if t then x else x)
      same true x = refl
      same false x = refl

      by_test : (test : Bool) → nat_eq a b ≡ test → Hold val (if test then (let kept : Option ℕ × NodeList = (Some a, n) in kept) else (let m = made (Mux p.kind c a b) n in (Some m.word, m.list))).1
          → Merged val c a b (if test then (let kept : Option ℕ × NodeList = (Some a, n) in kept) else (let m = made (Mux p.kind c a b) n in (Some m.word, m.list))).0
      by_test true e h = let is : a ≡ b = search (rules, tests) in record { word = a; is = refl; value = same (is_truth (val c)) (val a) ∙ ap (λ (x : ℕ). if is_truth (val c) then val a else val x) is }
      by_test false e h = record { word = (made (Mux p.kind c a b) n).word; is = refl; value = value_made val (Mux p.kind c a b) n h }

  merged_at : (ps : List Scratch) (c : ℕ) (on off : Store) (held : Store) (place : ℕ) (n : NodeList) (i w : ℕ) → slice_index_or held i None ≡ Some w → Hold val (merged ps c on off place held n).list
      → Merged val c (word_at on (place + i)) (word_at off (place + i)) (slice_index_or (merged ps c on off place held n).store i None)
  merged_at ps c on off [] place n i w is h = cc
  merged_at ps c on off (u ∷ more) place n zero w is h =
      let m = merged_word (place_at ps place) c u (word_at on place) (word_at off place) n in
      let held = hold_before val m.1 (merged ps c on off (place + 1) more m.1).list (grows_merged ps c on off (place + 1) more m.1) h in
      let one = merged_one (place_at ps place) c u w (word_at on place) (word_at off place) n is held in
      subst (λ (p : ℕ). Merged val c (word_at on p) (word_at off p) m.0) (plus_none place) one
    where
      plus_none : (p : ℕ) → p ≡ p + 0
      plus_none p = omega arith
  merged_at ps c on off (u ∷ more) place n (suc i) w is h =
      let m = merged_word (place_at ps place) c u (word_at on place) (word_at off place) n in
      subst (λ (p : ℕ). Merged val c (word_at on p) (word_at off p) (slice_index_or (merged ps c on off (place + 1) more m.1).store i None)) (plus_one place i) (merged_at ps c on off more (place + 1) m.1 i w is h)
    where
      plus_one : (p i : ℕ) → p + 1 + i ≡ p + suc i
      plus_one p i = omega arith

pub length-merged : (ps : List Scratch) (c : ℕ) (on off : Store) (held : Store) (place : ℕ) (n : NodeList) → length (merged ps c on off place held n).store ≡ length held
length-merged ps c on off [] place n = refl
length-merged ps c on off (u ∷ more) place n = ap suc (length-merged ps c on off more (place + 1) _)

module _ (val : ℕ → ℤ) (ps : List Scratch) (n : ℕ) where
  -- the store shows the state of the side that runs
  shows_merged : (c : ℕ) (done : List ℕ) (begun on off : Store) (s x y : State) (list : NodeList) → Shows val ps n done begun s → Shows val ps n done on x → Shows val ps n done off y
      → Hold val (merged ps c on off 0 begun list).list → Shows val ps n done (merged ps c on off 0 begun list).store (if is_truth (val c) then x else y)
  shows_merged c done begun on off s x y list shows one other h = record {
    long = length-merged ps c on off begun 0 list ∙ shows.long;
    size = by_size (is_truth (val c));
    holds = holds;
  }
    where
      by_size : (test : Bool) → length (if test then x else y) ≡ length ps
      by_size true = one.size
      by_size false = other.size

      by_side : (test : Bool) (p u : ℕ) (w : Option ℕ) → Holds val ps on x p → Holds val ps off y p → w ≡ Some u → val u ≡ (if test then val (word_at on p) else val (word_at off p)) → (store : Store) → slice_index_or store p None ≡ w
          → Holds val ps store (if test then x else y) p
      by_side true p u w a b is value store at = record { word = u; is = at ∙ is; value = value ∙ ap val (word_is val ps n on x p a) ∙ a.value; inside = a.inside }
      by_side false p u w a b is value store at = record { word = u; is = at ∙ is; value = value ∙ ap val (word_is val ps n off y p b) ∙ b.value; inside = b.inside }

      holds : (p : ℕ) → IsReadable n done p → Holds val ps (merged ps c on off 0 begun list).store (if is_truth (val c) then x else y) p
      holds p r =
          let m = merged_at val ps c on off begun 0 list p (shows.holds p r).word (shows.holds p r).is h in
          let value : val m.word ≡ (if is_truth (val c) then val (word_at on p) else val (word_at off p)) = m.value ∙ ap (λ (q : ℕ). if is_truth (val c) then val (word_at on q) else val (word_at off q)) (none_plus p) in
          by_side (is_truth (val c)) p m.word _ (one.holds p r) (other.holds p r) m.is value (merged ps c on off 0 begun list).store refl
        where
          none_plus : (p : ℕ) → 0 + p ≡ p
          none_plus p = omega arith

module _ (val : ℕ → ℤ) (cells : List CellData) (cs : List Scratch) (typed : All IsTypedPlace (map of_cell cells ++ cs)) (first : FaultFirst (map of_cell cells ++ cs) (length cells)) where
  abbrev ps : List Scratch
  ps = map of_cell cells ++ cs

  mutual
    pub shows_store : (t : FlatStatement) (done : List ℕ) (store : Store) (s : State) (n : NodeList) → IsFlatOver (length cells) cs done t → IsTypedFlatOver ps t
        → Shows val ps (length cells) done store s → Hold val (store_of ps t store n).list
        → Shows val ps (length cells) (set_behind t done) (store_of ps t store n).store (run_of (ranges_of cells) cs t s)
    shows_store (set place e) done store s n is takes shows h = shows_set val cells cs typed first place e done store s n is takes shows h
    shows_store (branch e a b) done store s n is of_types shows h =
        let m = word_of store types.Bool e (with_fault_of store n) in
        let begun = with_word 0 m.list.fault store in
        let on = store_of_all ps a begun m.list in
        let off = store_of_all ps b begun on.list in
        let off_held = hold_before val off.list (merged ps m.word on.store off.store 0 begun off.list).list (grows_merged ps m.word on.store off.store 0 begun off.list) h in
        let on_held = hold_before val on.list off.list (grows_all ps b begun on.list) off_held in
        let m_held = hold_before val m.list on.list (grows_all ps a begun m.list) on_held in
        let f = faults no_callees 0 e s in
        let know = known val ps (length cells) typed done store s shows in
        let given = gives val ps store s (IsReadable (length cells) done) know e types.Bool (with_fault_of store n) (fault_at val ps (length cells) first s) of_types.0 is.0 m_held (fault_word val ps (length cells) first done store s shows) in
        let behind = subst (λ (y : State). Shows val ps (length cells) done begun y) (sym (fault_added val ps (length cells) first s f (fault_is val ps (length cells) first done store s shows)))
        (shows_fault val ps (length cells) first done store s m.list.fault (fault_at val ps (length cells) first s || f) shows given.fault) in
        let one = shows_all a done begun (with_fault f s) m.list is.1 of_types.1 behind on_held in
        let other = shows_all b done begun (with_fault f s) on.list is.2 of_types.2 behind off_held in
        let whole = shows_merged val ps (length cells) m.word done begun on.store off.store (with_fault f s) _ _ off.list behind one other h in
        subst (λ (x : ℤ). Shows val ps (length cells) done (merged ps m.word on.store off.store 0 begun off.list).store (if is_truth x then run_of_all (ranges_of cells) cs a (with_fault f s) else run_of_all (ranges_of cells) cs b (with_fault f s))) given.word whole

    pub shows_all : (ts : FlatStatements) (done : List ℕ) (store : Store) (s : State) (n : NodeList) → AreFlatOver (length cells) cs done ts → AreTypedFlatOver ps ts
        → Shows val ps (length cells) done store s → Hold val (store_of_all ps ts store n).list
        → Shows val ps (length cells) done (store_of_all ps ts store n).store (run_of_all (ranges_of cells) cs ts s)
    shows_all no_flats done store s n are of_types shows h = shows
    shows_all (flat t ts) done store s n are of_types shows h =
        let r = store_of ps t store n in
        let held = hold_before val r.list (store_of_all ps ts r.store r.list).list (grows_all ps ts r.store r.list) h in
        let one = shows_store t done store s n are.0 of_types.0 shows held in
        shows_behind val ps (length cells) t done _ _ (shows_all ts (set_behind t done) r.store (run_of (ranges_of cells) cs t s) r.list are.1 of_types.1 one h)
