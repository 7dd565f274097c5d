-- The words that statements leave are of the types of their places.
use Rattle.std.proofs.Common.{◌≡◌, ◌≢◌, inl, inr, ℕ, zero, suc, ◌+◌, ◌<◌, ◌≤◌, Bool, true, false, refl, sym, ◌∙◌, ap, subst, List, [], ◌∷◌, ◌++◌, length, map, arith, rules, tests, length-append, Option, Some, None}
use Rattle.std.specs.Prelude.{◌==◌, nat_lt, if◌then◌else◌, nat_eq, slice_index_or, unwrap_or, All}
use Rattle.std.proofs.lemmas.List.{length-map, length-set, get_or-set_same, get_or-set_other, get_or_past}
use Rattle.plc_types.specs.declared.elementary.Elementary.{Elementary}
use Rattle.plc_types.specs.declared.elementary.Elementary.TheVariants as types
use Rattle.program_tree.specs.Tree.{Expression, CellData}
use Rattle.program_tree.specs.declared.scratch.Scratch.{Scratch}
use Rattle.program_tree.specs.Places.{of_cell, place_at, IsTypedPlace}
use Rattle.flat_core.specs.FlatTree.{FlatStatement, set, branch, FlatStatements, no_flats, flat}
use Rattle.flat_core.specs.FlatRules.{Reads, IsReadable, set_behind, IsFlatOver, AreFlatOver}
use Rattle.node_core.specs.declared.node.Node.TheVariants.{Outside, Mux}
use Rattle.node_core.specs.NodeTypes.{IsWordOf, all_kinds}
use Rattle.node_core.specs.Words.{NodeList, Store, word_at, taken, made, faulted, word_of}
use Rattle.node_core.specs.Stores.{with_fault_of, with_word, tested_word, target_word, merged_word, merged, store_of, store_of_all}
use Rattle.node_core.specs.TypedFlats.{IsOf, Takes, IsTypedFlatOver, AreTypedFlatOver}
use Rattle.node_core.proofs.Growth.{Grows, grows_both, grows_made, grows_from, grows_word, grows_target, grows_merged_word, grows_merged, grows_all}
use Rattle.node_laws.proofs.TypedWords.{Typed, adds_made, Makes, later, makes_made, makes_faulted, grows_fault, Reading, makes}
use Rattle.node_laws.proofs.Choices.{length-merged}

-- ---- what holds a word goes on holding one

abbrev pub HoldsOne : Store → ℕ → Type 0
HoldsOne store p = (w : ℕ) × (slice_index_or store p None ≡ Some w)

holds_within : (store : Store) (p : ℕ) → HoldsOne store p → p < length store
holds_within store p (w, is) = by_test (nat_lt p (length store)) refl
  where
    by_test : (test : Bool) → nat_lt p (length store) ≡ test → p < length store
    by_test true e = search (rules, tests)
    by_test false e = let above : length store ≤ p = search (rules, tests) in let none = get_or_past store p None above in cc

holds_put : (store : Store) (place word p : ℕ) → HoldsOne store p → HoldsOne (with_word place word store) p
holds_put store place word p one = by_test (p == place) refl
  where
    by_test : (test : Bool) → (p == place) ≡ test → HoldsOne (with_word place word store) p
    by_test true e =
        let is : p ≡ place = search (rules, tests) in
        let low = holds_within store p one in
        (word, ap (λ q. slice_index_or (with_word place word store) q None) is ∙ get_or-set_same store place (Some word) None (omega arith))
    by_test false e =
        let other : p ≢ place = λ is. let two : (p == place) ≡ true = search (rules, tests) in cc in
        (one.0, get_or-set_other store place p (Some word) None other ∙ one.1)

holds_here : (store : Store) (place word : ℕ) → place < length store → HoldsOne (with_word place word store) place
holds_here store place word low = (word, get_or-set_same store place (Some word) None low)

holds_merged_word : (p : Scratch) (c : ℕ) (held : Option ℕ) (a b : ℕ) (n : NodeList) (w : ℕ) → held ≡ Some w → (u : ℕ) × ((merged_word p c held a b n).0 ≡ Some u)
unfolding merged_word
holds_merged_word p c None a b n w is = cc
holds_merged_word p c (Some h) a b n w is = by_test (nat_eq a b)
  where
    by_test : (test : Bool) → (u : ℕ) × ((if test then (let kept : Option ℕ × NodeList = (Some a, n) in kept) else (let m = made (Mux p.kind c a b) n in (Some m.word, m.list))).0 ≡ Some u)
    by_test true = (a, refl)
    by_test false = ((made (Mux p.kind c a b) n).word, refl)

holds_merged : (ps : List Scratch) (c : ℕ) (on off : Store) (held : Store) (place : ℕ) (n : NodeList) (i : ℕ) → HoldsOne held i → HoldsOne (merged ps c on off place held n).store i
holds_merged ps c on off [] place n i one = one
holds_merged ps c on off (h ∷ more) place n zero one = holds_merged_word (place_at ps place) c h (word_at on place) (word_at off place) n one.0 one.1
holds_merged ps c on off (h ∷ more) place n (suc i) one = holds_merged ps c on off more (place + 1) _ i one

mutual
  holds_store : (ps : List Scratch) (t : FlatStatement) (store : Store) (n : NodeList) (p : ℕ) → HoldsOne store p → HoldsOne (store_of ps t store n).store p
  holds_store ps (set place e) store n p one = holds_put _ place _ p (holds_put store 0 _ p one)
  holds_store ps (branch e a b) store n p one = holds_merged ps _ _ _ _ 0 _ p (holds_put store 0 _ p one)

  holds_all : (ps : List Scratch) (ts : FlatStatements) (store : Store) (n : NodeList) (p : ℕ) → HoldsOne store p → HoldsOne (store_of_all ps ts store n).store p
  holds_all ps no_flats store n p one = one
  holds_all ps (flat t ts) store n p one = holds_all ps ts (store_of ps t store n).store (store_of ps t store n).list p (holds_store ps t store n p one)

-- ---- types

module _ (ts : List Elementary) (ps : List Scratch) where
  -- each word that a place holds is of the place's type
  pub record WordsFit (n : NodeList) (store : Store) : Type 0 where
    pub long : length store ≡ length ps
    pub each : (p w : ℕ) → slice_index_or store p None ≡ Some w → IsWordOf (all_kinds ts n.nodes) (place_at ps p).kind w

  fit_later : (n m : NodeList) (store : Store) → Grows n m → WordsFit n store → WordsFit m store
  fit_later n m store g fit = record { long = fit.long; each = λ p w is. later ts n m (place_at ps p).kind w g (fit.each p w is) }

  fit_put : (n : NodeList) (store : Store) (place word : ℕ) → place < length ps → WordsFit n store → IsWordOf (all_kinds ts n.nodes) (place_at ps place).kind word → WordsFit n (with_word place word store)
  fit_put n store place word low fit is_word = record { long = length-set store place (Some word) ∙ fit.long; each = λ p w is. by_test p w is (p == place) refl }
    where
      by_test : (p w : ℕ) → slice_index_or (with_word place word store) p None ≡ Some w → (test : Bool) → (p == place) ≡ test → IsWordOf (all_kinds ts n.nodes) (place_at ps p).kind w
      by_test p w is true e =
          let at : p ≡ place = search (rules, tests) in
          let long = fit.long in
          let here = get_or-set_same store place (Some word) None (omega arith) in
          let same : Some word ≡ Some w = sym here ∙ ap (λ q. slice_index_or (with_word place word store) q None) (sym at) ∙ is in
          let words : word ≡ w = cc in
          subst (λ q. IsWordOf (all_kinds ts n.nodes) (place_at ps q).kind w) (sym at) (subst (λ v. IsWordOf (all_kinds ts n.nodes) (place_at ps place).kind v) words is_word)
      by_test p w is false e =
          let other : p ≢ place = λ at. let two : (p == place) ≡ true = search (rules, tests) in cc in
          fit.each p w (sym (get_or-set_other store place p (Some word) None other) ∙ is)

  -- ---- assignments

  makes_tested : (p : Scratch) (old a : ℕ) (n : NodeList) → IsTypedPlace p → Typed ts n → IsWordOf (all_kinds ts n.nodes) types.Bool n.fault → IsWordOf (all_kinds ts n.nodes) p.kind old → IsWordOf (all_kinds ts n.nodes) p.kind a → Makes ts (tested_word p old a n) p.kind
  unfolding tested_word
  makes_tested p old a n place typed fault of_old of_a =
      let out = made (Outside p.kind p.range a) n in
      let one = makes_made ts (Outside p.kind p.range a) n types.Bool refl typed fault (place.0, place.1, of_a) in
      let f = makes_faulted ts out one in
      let g = grows_both n out.list (faulted out) (grows_made (Outside p.kind p.range a) n) (grows_fault ts out) in
      makes_made ts (Mux p.kind out.word old a) (faulted out) p.kind refl f.typed f.fault
      (later ts out.list (faulted out) types.Bool out.word (grows_fault ts out) one.word, later ts n (faulted out) p.kind old g of_old, later ts n (faulted out) p.kind a g of_a)

  makes_target : (p : Scratch) (held : Option ℕ) (a : ℕ) (n : NodeList) → IsTypedPlace p → Typed ts n → IsWordOf (all_kinds ts n.nodes) types.Bool n.fault → ((w : ℕ) → held ≡ Some w → IsWordOf (all_kinds ts n.nodes) p.kind w) → IsWordOf (all_kinds ts n.nodes) p.kind a
      → Makes ts (target_word p held a n) p.kind
  unfolding target_word
  makes_target p None a n place typed fault of_held of_a = record { typed = typed; word = of_a; fault = fault }
  makes_target p (Some old) a n place typed fault of_held of_a = by_test p.is_subrange
    where
      by_test : (test : Bool) → Makes ts (if test then tested_word p old a n else taken a n) p.kind
      by_test true = makes_tested p old a n place typed fault (of_held old refl) of_a
      by_test false = record { typed = typed; word = of_a; fault = fault }

  -- ---- choices

  pub record Merging (n : NodeList) (t : Elementary) (w : Option ℕ) : Type 0 where
    pub typed : Typed ts n
    pub word : (u : ℕ) → w ≡ Some u → IsWordOf (all_kinds ts n.nodes) t u

  typed_merged_word : (p : Scratch) (c : ℕ) (held : Option ℕ) (a b : ℕ) (n : NodeList) → Typed ts n → IsWordOf (all_kinds ts n.nodes) types.Bool c
      → ((w : ℕ) → held ≡ Some w → IsWordOf (all_kinds ts n.nodes) p.kind a × IsWordOf (all_kinds ts n.nodes) p.kind b)
      → Merging (merged_word p c held a b n).1 p.kind (merged_word p c held a b n).0
  unfolding merged_word
  typed_merged_word p c None a b n typed of_c sides = record { typed = typed; word = λ u is. cc }
  typed_merged_word p c (Some w) a b n typed of_c sides = by_test (nat_eq a b)
    where
      by_test : (test : Bool) → Merging (if test then (let kept : Option ℕ × NodeList = (Some a, n) in kept) else (let m = made (Mux p.kind c a b) n in (Some m.word, m.list))).1 p.kind
          (if test then (let kept : Option ℕ × NodeList = (Some a, n) in kept) else (let m = made (Mux p.kind c a b) n in (Some m.word, m.list))).0
      by_test true = record { typed = typed; word = λ u is. let same : a ≡ u = cc in subst (λ v. IsWordOf (all_kinds ts n.nodes) p.kind v) same (sides w refl).0 }
      by_test false =
          let m = adds_made ts (Mux p.kind c a b) n p.kind refl typed (of_c, (sides w refl).0, (sides w refl).1) in
          record { typed = m.typed; word = λ u is. let same : (made (Mux p.kind c a b) n).word ≡ u = cc in subst (λ v. IsWordOf (all_kinds ts (made (Mux p.kind c a b) n).list.nodes) p.kind v) same m.word }

  -- places from one on
  record Rest (n : NodeList) (place : ℕ) (store : Store) : Type 0 where
    typed : Typed ts n
    each : (i w : ℕ) → slice_index_or store i None ≡ Some w → IsWordOf (all_kinds ts n.nodes) (place_at ps (place + i)).kind w

  typed_merged : (c : ℕ) (on off : Store) (held : Store) (place : ℕ) (n : NodeList) → Typed ts n → IsWordOf (all_kinds ts n.nodes) types.Bool c
      → ((i w : ℕ) → slice_index_or held i None ≡ Some w → IsWordOf (all_kinds ts n.nodes) (place_at ps (place + i)).kind (word_at on (place + i)) × IsWordOf (all_kinds ts n.nodes) (place_at ps (place + i)).kind (word_at off (place + i)))
      → Rest (merged ps c on off place held n).list place (merged ps c on off place held n).store
  typed_merged c on off [] place n typed of_c sides = record { typed = typed; each = λ i w is. cc }
  typed_merged c on off (h ∷ more) place n typed of_c sides =
      let m = merged_word (place_at ps place) c h (word_at on place) (word_at off place) n in
      let one = typed_merged_word (place_at ps place) c h (word_at on place) (word_at off place) n typed of_c (λ w is. at_first place (sides 0 w is)) in
      let g = grows_merged_word (place_at ps place) c h (word_at on place) (word_at off place) n in
      let rest = typed_merged c on off more (place + 1) m.1 one.typed (later ts n m.1 types.Bool c g of_c)
      (λ i w is. let both = at_next place i (sides (suc i) w is) in (later ts n m.1 _ _ g both.0, later ts n m.1 _ _ g both.1)) in
      record { typed = rest.typed; each = each one.word rest.each }
    where
      Both : ℕ → Type 0
      Both p = IsWordOf (all_kinds ts n.nodes) (place_at ps p).kind (word_at on p) × IsWordOf (all_kinds ts n.nodes) (place_at ps p).kind (word_at off p)

      at_first : (p : ℕ) → Both (p + 0) → Both p
      at_first p h = subst Both (plus_none p) h
        where
          plus_none : (p : ℕ) → p + 0 ≡ p
          plus_none p = omega arith

      at_next : (p i : ℕ) → Both (p + suc i) → Both (p + 1 + i)
      at_next p i h = subst Both (plus_one p i) h
        where
          plus_one : (p i : ℕ) → p + suc i ≡ p + 1 + i
          plus_one p i = omega arith

      m : Option ℕ × NodeList
      m = merged_word (place_at ps place) c h (word_at on place) (word_at off place) n

      last : NodeList
      last = (merged ps c on off (place + 1) more m.1).list

      each : ((u : ℕ) → m.0 ≡ Some u → IsWordOf (all_kinds ts m.1.nodes) (place_at ps place).kind u)
          → ((i w : ℕ) → slice_index_or (merged ps c on off (place + 1) more m.1).store i None ≡ Some w → IsWordOf (all_kinds ts last.nodes) (place_at ps (place + 1 + i)).kind w)
          → (i w : ℕ) → slice_index_or (m.0 ∷ (merged ps c on off (place + 1) more m.1).store) i None ≡ Some w → IsWordOf (all_kinds ts last.nodes) (place_at ps (place + i)).kind w
      each one rest zero w is = subst (λ p. IsWordOf (all_kinds ts last.nodes) (place_at ps p).kind w) (plus_none place) (later ts m.1 last (place_at ps place).kind w (grows_merged ps c on off (place + 1) more m.1) (one w is))
        where
          plus_none : (p : ℕ) → p ≡ p + 0
          plus_none p = omega arith
      each one rest (suc i) w is = subst (λ p. IsWordOf (all_kinds ts last.nodes) (place_at ps p).kind w) (plus_one place i) (rest i w is)
        where
          plus_one : (p i : ℕ) → p + 1 + i ≡ p + suc i
          plus_one p i = omega arith

-- ---- statements

module _ (ts : List Elementary) (cells : List CellData) (cs : List Scratch) (places : All IsTypedPlace (map of_cell cells ++ cs)) (some : 0 < length cells) (bool : (place_at (map of_cell cells ++ cs) 0).kind ≡ types.Bool) where
  abbrev ps : List Scratch
  ps = map of_cell cells ++ cs

  count : length (map of_cell cells ++ cs) ≡ length cells + length cs
  count = length-append (map of_cell cells) cs ∙ ap (λ n. n + length cs) (length-map cells of_cell)

  -- typed nodes, words of the types of their places, and a word in each place that may be read
  pub record Kinds (done : List ℕ) (n : NodeList) (store : Store) : Type 0 where
    pub typed : Typed ts n
    pub fit : WordsFit ts ps n store
    pub held : (p : ℕ) → IsReadable (length cells) done p → HoldsOne store p

  pub reads : (done : List ℕ) (n : NodeList) (store : Store) (p : ℕ) → Kinds done n store → HoldsOne store p → IsWordOf (all_kinds ts n.nodes) (place_at ps p).kind (word_at store p)
  reads done n store p k one = subst (λ w. IsWordOf (all_kinds ts n.nodes) (place_at ps p).kind w) (sym (ap (λ w. unwrap_or w 0) one.1)) (k.fit.each p one.0 one.1)

  fault_reads : (done : List ℕ) (n : NodeList) (store : Store) → Kinds done n store → IsWordOf (all_kinds ts n.nodes) types.Bool (word_at store 0)
  fault_reads done n store k = subst (λ t. IsWordOf (all_kinds ts n.nodes) t (word_at store 0)) bool (reads done n store 0 k (k.held 0 (inl some)))

  -- the word of an expression, where the word of FAULT is that of its place
  makes_here : (done : List ℕ) (e : Expression) (t : Elementary) (n : NodeList) (store : Store) → IsOf ps t e → Reads (IsReadable (length cells) done) e → Kinds done n store → Makes ts (word_of store t e (with_fault_of store n)) t
  unfolding Reading
  makes_here done e t n store is may_read k =
      makes ts ps store (IsReadable (length cells) done) e t (with_fault_of store n) is may_read (λ p r. reads done n store p k (k.held p r)) (record { starts = k.typed.starts; each = k.typed.each }) (fault_reads done n store k)

  -- a word for FAULT
  kinds_fault : (done : List ℕ) (n m : NodeList) (store : Store) → Grows n m → Kinds done n store → Typed ts m → IsWordOf (all_kinds ts m.nodes) types.Bool m.fault → Kinds done m (with_word 0 m.fault store)
  kinds_fault done n m store g k typed fault =
      let low : 0 < length cells = some in
      record {
        typed = typed;
        fit = fit_put ts ps m store 0 m.fault (omega (arith, count)) (fit_later ts ps n m store g k.fit) (subst (λ t. IsWordOf (all_kinds ts m.nodes) t m.fault) (sym bool) fault);
        held = λ p r. holds_put store 0 m.fault p (k.held p r);
      }

  kinds_less : (t : FlatStatement) (done : List ℕ) (n : NodeList) (store : Store) → Kinds (set_behind t done) n store → Kinds done n store
  kinds_less (set place e) done n store k = record { typed = k.typed; fit = k.fit; held = λ p r. k.held p (more p r) }
    where
      more : (p : ℕ) → IsReadable (length cells) done p → IsReadable (length cells) (place ∷ done) p
      more p (inl below) = inl below
      more p (inr is) = inr (inr is)
  kinds_less (branch e a b) done n store k = k

  kinds_set : (place : ℕ) (e : Expression) (done : List ℕ) (store : Store) (n : NodeList) → IsFlatOver (length cells) cs done (set place e) → Takes ps (place_at ps place) e → Kinds done n store
      → Kinds (place ∷ done) (store_of ps (set place e) store n).list (store_of ps (set place e) store n).store
  kinds_set place e done store n is takes k =
      let p = place_at ps place in
      let held = slice_index_or store place None in
      let m = word_of store p.kind e (with_fault_of store n) in
      let one = makes_here done e p.kind n store takes.0 is.1 k in
      let g = grows_from store n m.list (grows_word store p.kind e (with_fault_of store n)) in
      let w = target_word p held m.word m.list in
      let low : place < length ps = omega (arith, count, is.0) in
      let whole = makes_target ts ps p held m.word m.list (places place _ low) one.typed one.fault (λ u at. later ts n m.list p.kind u g (k.fit.each place u at)) one.word in
      let begun = kinds_fault done n w.list store (grows_both n m.list w.list g (grows_target p held m.word m.list)) k whole.typed whole.fault in
      record { typed = begun.typed; fit = fit_put ts ps w.list _ place w.word low begun.fit whole.word; held = λ q r. holds_set q r w.list.fault w.word low begun.held }
    where
      holds_set : (q : ℕ) → IsReadable (length cells) (place ∷ done) q → (f u : ℕ) → place < length ps → ((p : ℕ) → IsReadable (length cells) done p → HoldsOne (with_word 0 f store) p) → HoldsOne (with_word place u (with_word 0 f store)) q
      holds_set q (inl below) f u low held = holds_put (with_word 0 f store) place u q (held q (inl below))
      holds_set q (inr (inl at)) f u low held =
          let long = k.fit.long in
          subst (λ p. HoldsOne (with_word place u (with_word 0 f store)) p) (sym at) (holds_here (with_word 0 f store) place u (omega (arith, length-set store 0 (Some f))))
      holds_set q (inr (inr at)) f u low held = holds_put (with_word 0 f store) place u q (held q (inr at))

  kinds_merged : (c : ℕ) (done : List ℕ) (begun on off : Store) (n : NodeList) → IsWordOf (all_kinds ts n.nodes) types.Bool c → Kinds done n begun → WordsFit ts ps n on → WordsFit ts ps n off
      → ((p : ℕ) → HoldsOne begun p → HoldsOne on p) → ((p : ℕ) → HoldsOne begun p → HoldsOne off p) → Kinds done (merged ps c on off 0 begun n).list (merged ps c on off 0 begun n).store
  kinds_merged c done begun on off n of_c k fit_on fit_off on_holds off_holds =
      let rest = typed_merged ts ps c on off begun 0 n k.typed of_c (λ i w is. at i (w, is)) in
      record {
        typed = rest.typed;
        fit = record { long = length-merged ps c on off begun 0 n ∙ k.fit.long; each = λ p w is. subst (λ q. IsWordOf (all_kinds ts (merged ps c on off 0 begun n).list.nodes) (place_at ps q).kind w) (none_plus p) (rest.each p w is) };
        held = λ p r. holds_merged ps c on off begun 0 n p (k.held p r);
      }
    where
      none_plus : (p : ℕ) → 0 + p ≡ p
      none_plus p = omega arith

      side : (store : Store) (p : ℕ) → WordsFit ts ps n store → HoldsOne store p → IsWordOf (all_kinds ts n.nodes) (place_at ps p).kind (word_at store p)
      side store p fit one = subst (λ w. IsWordOf (all_kinds ts n.nodes) (place_at ps p).kind w) (sym (ap (λ w. unwrap_or w 0) one.1)) (fit.each p one.0 one.1)

      Both : ℕ → Type 0
      Both p = IsWordOf (all_kinds ts n.nodes) (place_at ps p).kind (word_at on p) × IsWordOf (all_kinds ts n.nodes) (place_at ps p).kind (word_at off p)

      at : (i : ℕ) → HoldsOne begun i → Both (0 + i)
      at i one = subst Both (sym (none_plus i)) (side on i fit_on (on_holds i one), side off i fit_off (off_holds i one))

  mutual
    kinds_store : (t : FlatStatement) (done : List ℕ) (store : Store) (n : NodeList) → IsFlatOver (length cells) cs done t → IsTypedFlatOver ps t → Kinds done n store
        → Kinds (set_behind t done) (store_of ps t store n).list (store_of ps t store n).store
    kinds_store (set place e) done store n is takes k = kinds_set place e done store n is takes k
    kinds_store (branch e a b) done store n is of_types k =
        let m = word_of store types.Bool e (with_fault_of store n) in
        let begun = with_word 0 m.list.fault store in
        let on = store_of_all ps a begun m.list in
        let off = store_of_all ps b begun on.list in
        let one = makes_here done e types.Bool n store of_types.0 is.0 k in
        let g = grows_from store n m.list (grows_word store types.Bool e (with_fault_of store n)) in
        let k_begun = kinds_fault done n m.list store g k one.typed one.fault in
        let g_on = grows_all ps a begun m.list in
        let g_off = grows_all ps b begun on.list in
        let k_on = kinds_all a done begun m.list is.1 of_types.1 k_begun in
        let k_off = kinds_all b done begun on.list is.2 of_types.2 (record { typed = k_on.typed; fit = fit_later ts ps m.list on.list begun g_on k_begun.fit; held = k_begun.held }) in
        let both = grows_both m.list on.list off.list g_on g_off in
        kinds_merged m.word done begun on.store off.store off.list (later ts m.list off.list types.Bool m.word both one.word)
        (record { typed = k_off.typed; fit = fit_later ts ps m.list off.list begun both k_begun.fit; held = k_begun.held })
        (fit_later ts ps on.list off.list on.store g_off k_on.fit) k_off.fit (λ p h. holds_all ps a begun m.list p h) (λ p h. holds_all ps b begun on.list p h)

    pub kinds_all : (qs : FlatStatements) (done : List ℕ) (store : Store) (n : NodeList) → AreFlatOver (length cells) cs done qs → AreTypedFlatOver ps qs → Kinds done n store
        → Kinds done (store_of_all ps qs store n).list (store_of_all ps qs store n).store
    kinds_all no_flats done store n are of_types k = k
    kinds_all (flat t qs) done store n are of_types k =
        let r = store_of ps t store n in
        kinds_less t done _ _ (kinds_all qs (set_behind t done) r.store r.list are.1 of_types.1 (kinds_store t done store n are.0 of_types.0 k))
