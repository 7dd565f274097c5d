-- The word that an assignment leaves in its place, and in FAULT's.
use Rattle.std.proofs.Common.{◌≡◌, ◌≢◌, ◌⊎◌, inl, inr, ℕ, ◌+◌, ◌<◌, Bool, true, false, not, ◌||◌, refl, sym, ◌∙◌, ap, subst, List, ◌∷◌, ◌++◌, length, map, ℤ, pos, arith, length-append, Option, Some, None}
use Rattle.std.proofs.Math.Bool.{or-false}
use Rattle.std.specs.Prelude.{if◌then◌else◌, slice_set, slice_index_or, All}
use Rattle.std.proofs.lemmas.List.{length-map, get_or-set_other, set-get_or, set-set}
use Rattle.plc_types.specs.declared.range.Range.{Range}
use Rattle.plc_types.specs.Types.{in_range}
use Rattle.program_tree.specs.Tree.{Expression, CellData}
use Rattle.program_tree.specs.declared.scratch.Scratch.{Scratch}
use Rattle.program_tree.specs.Places.{of_cell, place_at, IsTypedPlace}
use Rattle.meaning.specs.Values.{State, number_of, is_truth, no_callees, value_of, faults}
use Rattle.meaning.specs.Effects.{with_fault}
use Rattle.scan_model.specs.Scans.{ranges_of}
use Rattle.flat_core.specs.FlatTree.{set}
use Rattle.flat_core.specs.FlatScans.{run_of}
use Rattle.flat_core.specs.FlatRules.{IsReadable, IsFlatOver}
use Rattle.node_core.specs.declared.node.Node.TheVariants.{Outside, Mux}
use Rattle.node_core.specs.Words.{NodeList, Made, Store, taken, made, faulted, word_of}
use Rattle.node_core.specs.Stores.{with_fault_of, with_word, tested_word, target_word, set_word, store_of}
use Rattle.node_core.specs.TypedFlats.{Takes, stays_in}
use Rattle.node_core.proofs.Growth.{grows_made, grows_faulted, grows_target}
use Rattle.node_laws.proofs.Held.{Hold, hold_before, value_made, fault_made, value_faulted}
use Rattle.node_laws.proofs.Expressions.{stays, gives}
use Rattle.node_laws.proofs.Places.{may_take, put, placed_is, taken_or_readable, Shows, known, shows_put, FaultFirst, fault_at, fault_is, fault_word, shows_fault, fault_added}

-- A place took the new word, or it refused it and kept the one that it held, which is a fault.
data Outcome (val : ℕ → ℤ) (p : Scratch) (v old : ℤ) (b : Bool) (m : Made) : Type 0 where
  took : may_take p v ≡ true → val m.word ≡ v → val m.list.fault ≡ number_of b → Outcome val p v old b m
  refused : may_take p v ≡ false → val m.word ≡ old → val m.list.fault ≡ number_of true → Outcome val p v old b m

module _ (val : ℕ → ℤ) (p : Scratch) (a : ℕ) (b : Bool) where
  tested_outcome : (old : ℕ) (n : NodeList) → p.is_subrange ≡ true → Hold val (tested_word p old a n).list → val n.fault ≡ number_of b → Outcome val p (val a) (val old) b (tested_word p old a n)
  unfolding tested_word may_take
  tested_outcome old n is_subrange h is_b =
      let f_held = hold_before val (faulted out) (tested_word p old a n).list (grows_made (Mux p.kind out.word old a) (faulted out)) h in
      let out_held = hold_before val out.list (faulted out) (grows_faulted out) f_held in
      let out_is = value_made val (Outside p.kind p.range a) n out_held in
      let fault_is = value_faulted val out b (not (in_range (val a) p.range)) f_held (ap val (fault_made val (Outside p.kind p.range a) n) ∙ is_b) out_is in
      by_test (in_range (val a) p.range) refl (value_made val (Mux p.kind out.word old a) (faulted out) h ∙ ap (λ (x : ℤ). if is_truth x then val old else val a) out_is) (ap val (fault_made val (Mux p.kind out.word old a) (faulted out)) ∙ fault_is)
    where
      out : Made
      out = made (Outside p.kind p.range a) n

      by_test : (inside : Bool) → in_range (val a) p.range ≡ inside → val (tested_word p old a n).word ≡ (if is_truth (number_of (not (in_range (val a) p.range))) then val old else val a)
          → val (tested_word p old a n).list.fault ≡ number_of (b || not (in_range (val a) p.range)) → Outcome val p (val a) (val old) b (tested_word p old a n)
      by_test true e word fault =
          took (ap (λ (l : Bool). not l || in_range (val a) p.range) is_subrange ∙ e)
          (word ∙ ap (λ (i : Bool). if is_truth (number_of (not i)) then val old else val a) e) (fault ∙ ap (λ (i : Bool). number_of (b || not i)) e ∙ ap number_of (or-false b))
      by_test false e word fault =
          refused (ap (λ (l : Bool). not l || in_range (val a) p.range) is_subrange ∙ e)
          (word ∙ ap (λ (i : Bool). if is_truth (number_of (not i)) then val old else val a) e) (fault ∙ ap (λ (i : Bool). number_of (b || not i)) e ∙ ap number_of (or_true b))
        where
          or_true : (b : Bool) → (b || true) ≡ true
          or_true true = refl
          or_true false = refl

  -- where a place that held none takes the value, and one that held a word has that of the state, if it does not take it
  target_outcome : (held : Option ℕ) (old : ℤ) (n : NodeList) → (p.is_subrange || in_range (val a) p.range) ≡ true
      → (may_take p (val a) ≡ true) ⊎ ((w : ℕ) × ((held ≡ Some w) × (val w ≡ old)))
      → Hold val (target_word p held a n).list → val n.fault ≡ number_of b → Outcome val p (val a) old b (target_word p held a n)
  unfolding target_word may_take
  target_outcome None old n fits (inl takes) h is_b = took takes refl is_b
  target_outcome None old n fits (inr (w, (is, value))) h is_b = cc
  target_outcome (Some w) old n fits may h is_b = by_test p.is_subrange refl h
    where
      as_known : (w : ℕ) → (may_take p (val a) ≡ true) ⊎ ((u : ℕ) × ((Some w ≡ Some u) × (val u ≡ old))) → Outcome val p (val a) (val w) b (tested_word p w a n) → Outcome val p (val a) old b (tested_word p w a n)
      as_known w may (took takes word fault) = took takes word fault
      as_known w (inl takes) (refused not_taken word fault) = cc
      as_known w (inr (u, (is, value))) (refused not_taken word fault) = let same : w ≡ u = cc in refused not_taken (word ∙ ap val same ∙ value) fault

      free : (l i : Bool) → l ≡ false → (l || i) ≡ true → (not l || i) ≡ true
      free true i e h = cc
      free false i e h = refl

      by_test : (test : Bool) → p.is_subrange ≡ test → Hold val (if test then tested_word p w a n else taken a n).list → Outcome val p (val a) old b (if test then tested_word p w a n else taken a n)
      by_test true e h = as_known w may (tested_outcome w n e h is_b)
      by_test false e h = took (takes_free e) refl is_b
        where
          takes_free : p.is_subrange ≡ false → may_take p (val a) ≡ true
          takes_free e = free p.is_subrange (in_range (val a) p.range) e fits

module _ (val : ℕ → ℤ) (cells : List CellData) (cs : List Scratch) (typed : All IsTypedPlace (map of_cell cells ++ cs)) (first : FaultFirst (map of_cell cells ++ cs) (length cells)) where
  abbrev ps : List Scratch
  ps = map of_cell cells ++ cs

  places : length (map of_cell cells ++ cs) ≡ length cells + length cs
  places = length-append (map of_cell cells) cs ∙ ap (λ n. n + length cs) (length-map cells of_cell)

  -- behind the word that a place got, the store shows what the assignment did
  shows_outcome : (done : List ℕ) (place : ℕ) (v : ℤ) (b : Bool) (store : Store) (s : State) (m : Made) → place < length cells + length cs → Shows val ps (length cells) done store s
      → ((place_at ps place).is_subrange || in_range v (place_at ps place).range) ≡ true → (may_take (place_at ps place) v ≡ true) ⊎ IsReadable (length cells) done place
      → Outcome val (place_at ps place) v (slice_index_or s place (pos 0)) b m
      → Shows val ps (length cells) (place ∷ done) (with_word place m.word (with_word 0 m.list.fault store)) (put (place_at ps place) place v (slice_set s 0 (number_of b)))
  unfolding put may_take
  shows_outcome done place v b store s m low shows fits may (took takes word fault) =
      subst (λ (t : Bool). Shows val ps (length cells) (place ∷ done) (with_word place m.word (with_word 0 m.list.fault store)) (if t then slice_set (slice_set s 0 (number_of b)) place v else slice_set (slice_set s 0 (number_of b)) 0 (pos 1))) (sym takes)
      (shows_put val ps (length cells) done _ _ place m.word v (omega (arith, places)) (shows_fault val ps (length cells) first done store s m.list.fault b shows fault) word (both (place_at ps place).is_subrange (in_range v (place_at ps place).range) fits takes))
    where
      both : (l i : Bool) → (l || i) ≡ true → (not l || i) ≡ true → i ≡ true
      both true i p q = q
      both false i p q = p
  shows_outcome done place v b store s m low shows fits (inl takes) (refused not_taken word fault) = cc
  shows_outcome done place v b store s m low shows fits (inr readable) (refused not_taken word fault) =
      let begun = shows_fault val ps (length cells) first done store s m.list.fault true shows fault in
      let stays : slice_index_or (slice_set s 0 (pos 1)) place (pos 0) ≡ slice_index_or s place (pos 0) = get_or-set_other s 0 place (pos 1) (pos 0) (no_fault (place_at ps place).is_subrange refl) in
      let again = shows_put val ps (length cells) done _ _ place m.word (slice_index_or (slice_set s 0 (pos 1)) place (pos 0)) (omega (arith, places)) begun (word ∙ sym stays)
      (ap (λ (x : ℤ). in_range x (place_at ps place).range) stays ∙ (shows.holds place readable).inside) in
      subst (λ (t : Bool). Shows val ps (length cells) (place ∷ done) (with_word place m.word (with_word 0 m.list.fault store)) (if t then slice_set (slice_set s 0 (number_of b)) place v else slice_set (slice_set s 0 (number_of b)) 0 (pos 1))) (sym not_taken)
      (subst (λ (y : State). Shows val ps (length cells) (place ∷ done) (with_word place m.word (with_word 0 m.list.fault store)) y) (set-get_or (slice_set s 0 (pos 1)) place (pos 0) ∙ sym (set-set s 0 (number_of b) (pos 1))) again)
    where
      -- FAULT is no subrange, and takes each value
      no_fault : (l : Bool) → (place_at ps place).is_subrange ≡ l → place ≢ 0
      no_fault true e is = let two : (place_at ps 0).is_subrange ≡ true = ap (λ q. (place_at ps q).is_subrange) (sym is) ∙ e in let one = first.whole in cc
      no_fault false e is = let two : (not (place_at ps place).is_subrange || in_range v (place_at ps place).range) ≡ true = ap (λ (x : Bool). not x || in_range v (place_at ps place).range) e in cc

  pub shows_set : (place : ℕ) (e : Expression) (done : List ℕ) (store : Store) (s : State) (n : NodeList) → IsFlatOver (length cells) cs done (set place e) → Takes ps (place_at ps place) e
      → Shows val ps (length cells) done store s → Hold val (set_word ps place e store n).list
      → Shows val ps (length cells) (place ∷ done) (store_of ps (set place e) store n).store (run_of (ranges_of cells) cs (set place e) s)
  shows_set place e done store s n is takes shows h =
      let p = place_at ps place in
      let v = value_of no_callees 0 e s in
      let f = faults no_callees 0 e s in
      let know = known val ps (length cells) typed done store s shows in
      let m = word_of store p.kind e (with_fault_of store n) in
      let held = slice_index_or store place None in
      let before = hold_before val m.list (target_word p held m.word m.list).list (grows_target p held m.word m.list) h in
      let given = gives val ps store s (IsReadable (length cells) done) know e p.kind (with_fault_of store n) (fault_at val ps (length cells) first s) takes.0 is.1 before (fault_word val ps (length cells) first done store s shows) in
      let word : val m.word ≡ v = given.word in
      let fits = fits_place _ p.range (stays_in ps e p.range) v p.is_subrange (stays val ps store s (IsReadable (length cells) done) know e p.range) takes.1 is.1 in
      let may = taken_or_readable cells cs done place e s is.0 is.2 in
      let outcome = subst (λ (x : ℤ). Outcome val p x (slice_index_or s place (pos 0)) (fault_at val ps (length cells) first s || f) (target_word p held m.word m.list)) word
      (target_outcome val p m.word (fault_at val ps (length cells) first s || f) held (slice_index_or s place (pos 0)) m.list
      (ap (λ (x : ℤ). p.is_subrange || in_range x p.range) word ∙ fits) (held_if p word may) h given.fault) in
      let shown = shows_outcome done place v (fault_at val ps (length cells) first s || f) store s (target_word p held m.word m.list) is.0 shows fits may outcome in
      subst (λ (y : State). Shows val ps (length cells) (place ∷ done) (store_of ps (set place e) store n).store y)
      (ap (λ (x : State). put p place v x) (sym (fault_added val ps (length cells) first s f (fault_is val ps (length cells) first done store s shows))) ∙ sym (placed_is cells cs place v (with_fault f s) is.0 fits)) shown
    where
      fits_place : (X : Type 0) (r : Range) (t : Bool) (v : ℤ) (l : Bool) → (t ≡ true → X → in_range v r ≡ true) → (l || t) ≡ true → X → (l || in_range v r) ≡ true
      fits_place X r t v true stay h x = refl
      fits_place X r t v false stay h x = stay h x

      held_if : {v w : ℤ} (p : Scratch) → w ≡ v → (may_take p v ≡ true) ⊎ IsReadable (length cells) done place → (may_take p w ≡ true) ⊎ ((u : ℕ) × ((slice_index_or store place None ≡ Some u) × (val u ≡ slice_index_or s place (pos 0))))
      held_if p word (inl takes) = inl (ap (may_take p) word ∙ takes)
      held_if p word (inr readable) = let h = shows.holds place readable in inr (h.word, (h.is, h.value))
