-- The nodes of a scan mean the scan, and those of a clause the clause.
use Rattle.std.proofs.Common.{◌≡◌, inl, inr, ℕ, zero, suc, ◌+◌, ◌<◌, ◌≤◌, true, false, refl, sym, ◌∙◌, ap, subst, List, [], ◌∷◌, ◌++◌, length, map, take, ℤ, pos, arith, Option, Some, None, length-append}
use Rattle.std.specs.Prelude.{slice_index_or, unwrap_or}
use Rattle.std.proofs.lemmas.List.{length-map, get_or-append-add, get_or_append_left, ext_get_or, get_or-take, get_or-map, length-take-le, append-nil}
use Rattle.plc_types.specs.declared.elementary.Elementary.TheVariants as types
use Rattle.plc_types.specs.declared.range.Range.{Range}
use Rattle.plc_types.specs.Types.{in_range}
use Rattle.plc_types.proofs.InRange.{in_range_from}
use Rattle.program_tree.specs.Tree.{CellData}
use Rattle.program_tree.specs.declared.scratch.Scratch.{Scratch}
use Rattle.program_tree.specs.Places.{of_cell, place_at}
use Rattle.meaning.specs.Values.{State, number_of}
use Rattle.meaning.specs.Effects.{range_at}
use Rattle.scan_model.specs.Scans.{ranges_of}
use Rattle.scan_model.specs.InRange.{IsInRange, BeginsWithFault}
use Rattle.scan_model.proofs.Keeping.{IsInRange-length}
use Rattle.flat_core.specs.FlatTree.{FlatData}
use Rattle.flat_core.specs.FlatScans.{run_of_all, cleared}
use Rattle.flat_core.specs.FlatRules.{IsReadable}
use Rattle.node_core.specs.Nodes.{WordsAre, NodesHold}
use Rattle.node_core.specs.Words.{NodeList, Store, word_of}
use Rattle.node_core.specs.Stores.{places_of}
use Rattle.node_core.specs.Scans.{start_words, start_store, run_of, words_in, scan_of, clause_of}
use Rattle.node_core.specs.TypedFlats.{IsTypedFlat}
use Rattle.node_core.specs.NodeLaws.{NodesMeanScans, NodesMeanClauses}
use Rattle.node_core.proofs.Growth.{grows_word, grows_all}
use Rattle.node_laws.proofs.Expressions.{Known, gives}
use Rattle.node_laws.proofs.Places.{range_below, typed_at, Holds, Shows, word_is, FaultFirst}
use Rattle.node_laws.proofs.Choices.{shows_all}

-- ---- the start

pub length-start_words : (word n : ℕ) → length (start_words word n) ≡ n
length-start_words word zero = refl
length-start_words word (suc n) = ap suc (length-start_words (word + 1) n)

pub start_word_at : (word n place : ℕ) → place < n → slice_index_or (start_words word n) place None ≡ Some (word + place)
start_word_at word zero place h = absurd (omega arith)
start_word_at word (suc n) zero h = ap Some (none word)
  where
    none : (w : ℕ) → w ≡ w + 0
    none w = omega arith
start_word_at word (suc n) (suc place) h = start_word_at (word + 1) n place (omega arith) ∙ ap Some (one word place)
  where
    one : (w p : ℕ) → w + 1 + p ≡ w + suc p
    one w p = omega arith

words_at : (val : ℕ → ℤ) (word : ℕ) (vs : State) (place : ℕ) → place < length vs → WordsAre val word vs → val (word + place) ≡ slice_index_or vs place (pos 0)
words_at val word [] place h are = absurd (omega arith)
words_at val word (v ∷ vs) zero h are = ap val (none word) ∙ are.0
  where
    none : (w : ℕ) → w + 0 ≡ w
    none w = omega arith
words_at val word (v ∷ vs) (suc place) h are = ap val (one word place) ∙ words_at val (word + 1) vs place (omega arith) are.1
  where
    one : (w p : ℕ) → w + suc p ≡ w + 1 + p
    one w p = omega arith

range_at-in : (rs : List Range) (s : State) (place : ℕ) → place < length rs → IsInRange rs s → in_range (slice_index_or s place (pos 0)) (range_at rs place) ≡ true
range_at-in [] s place h is = absurd (omega arith)
range_at-in (r ∷ rs) [] place h is = absurd is
range_at-in (r ∷ rs) (v ∷ s) zero h is = in_range_from v r is.0 is.1
range_at-in (r ∷ rs) (v ∷ s) (suc place) h is = range_at-in rs s place (omega arith) is.2

fault_first : (cells : List CellData) (cs : List Scratch) → BeginsWithFault cells → (place_at (map of_cell cells ++ cs) 0).is_subrange ≡ false → FaultFirst (map of_cell cells ++ cs) (length cells)
fault_first [] cs begins whole = absurd begins
fault_first (c ∷ cells) cs begins whole = record {
  some = omega arith;
  few = omega (arith, length-append (map of_cell (c ∷ cells)) cs, length-map (c ∷ cells) of_cell);
  range = begins.2;
  whole = whole;
}

abbrev pub no_word : Scratch → Option ℕ
no_word c = None

module _ (f : FlatData) (typed : IsTypedFlat f) (s : State) (is : IsInRange (ranges_of f.cells) s) (val : ℕ → ℤ) (words : WordsAre val 0 s) where
  abbrev ps : List Scratch
  ps = map of_cell f.cells ++ f.scratch

  long : length s ≡ length f.cells
  long = sym (IsInRange-length (ranges_of f.cells) s is) ∙ length-map f.cells (λ (c : CellData). c.range)

  places : length (map of_cell f.cells ++ f.scratch) ≡ length f.cells + length f.scratch
  places = length-append (map of_cell f.cells) f.scratch ∙ ap (λ n. n + length f.scratch) (length-map f.cells of_cell)

  shows_start : Shows val ps (length f.cells) [] (start_store f) (s ++ cleared f.scratch)
  shows_start = record {
    long = length-append (start_words 0 (length f.cells)) (map no_word f.scratch) ∙ ap (λ n. n + length (map no_word f.scratch)) (length-start_words 0 (length f.cells)) ∙ ap (λ n. length f.cells + n) (length-map f.scratch no_word) ∙ sym places;
    size = length-append s (cleared f.scratch) ∙ ap (λ n. n + length (cleared f.scratch)) long ∙ ap (λ n. length f.cells + n) (length-map f.scratch (λ c. pos 0)) ∙ sym places;
    holds = holds;
  }
    where
      holds : (p : ℕ) → IsReadable (length f.cells) [] p → Holds val ps (start_store f) (s ++ cleared f.scratch) p
      holds p (inr none) = absurd none
      holds p (inl below) =
          let at : slice_index_or (s ++ cleared f.scratch) p (pos 0) ≡ slice_index_or s p (pos 0) = get_or_append_left s (cleared f.scratch) (pos 0) p (omega (arith, long)) in
          let same = length-map f.cells (λ (c : CellData). c.range) in
          record {
            word = 0 + p;
            is = get_or_append_left (start_words 0 (length f.cells)) (map no_word f.scratch) None p (omega (arith, length-start_words 0 (length f.cells))) ∙ start_word_at 0 (length f.cells) p below;
            value = words_at val 0 s p (omega (arith, long)) words ∙ sym at;
            inside = ap (λ (v : ℤ). in_range v (place_at ps p).range) at ∙ ap (λ (r : Range). in_range (slice_index_or s p (pos 0)) r) (range_below f.cells f.scratch p below)
                ∙ range_at-in (ranges_of f.cells) s p (omega (arith, same)) is;
          }

  starts : (run_of f).list.starts ≡ length f.cells
  starts = (grows_all ps f.body (start_store f) (record { starts = length f.cells; nodes = []; fault = 0 })).starts

  shows_end : NodesHold val (length f.cells) (scan_of f).nodes → Shows val ps (length f.cells) [] (run_of f).store (run_of_all (ranges_of f.cells) f.scratch f.body (s ++ cleared f.scratch))
  shows_end nodes =
      shows_all val f.cells f.scratch typed.places (fault_first f.cells f.scratch typed.begins_with_fault typed.whole_fault) f.body [] (start_store f) (s ++ cleared f.scratch) (record { starts = length f.cells; nodes = []; fault = 0 })
      typed.flat typed.statements shows_start (record { each = subst (λ w. NodesHold val w (run_of f).list.nodes) (sym starts) nodes })

-- the words of a store in front are the values of the state in front
front_is : (val : ℕ → ℤ) (ps : List Scratch) (n : ℕ) (store : Store) (s : State) → n ≤ length ps → Shows val ps n [] store s → map val (words_in (take n store)) ≡ take n s
front_is val ps n store s few shows = ext_get_or (pos 0) (map val (words_in (take n store))) (take n s) (long ∙ sym size) at
  where
    whole : length store ≡ length ps
    whole = shows.long

    whole_state : length s ≡ length ps
    whole_state = shows.size

    front : length (take n store) ≡ n
    front = length-take-le n store (omega (arith, whole))

    long : length (map val (words_in (take n store))) ≡ n
    long = length-map (words_in (take n store)) val ∙ length-map (take n store) (λ w. unwrap_or w 0) ∙ front

    size : length (take n s) ≡ n
    size = length-take-le n s (omega (arith, whole_state))

    at : (i : ℕ) → i < length (map val (words_in (take n store))) → slice_index_or (map val (words_in (take n store))) i (pos 0) ≡ slice_index_or (take n s) i (pos 0)
    at i h =
        let below : i < n = omega (arith, long) in
        let holds = shows.holds i (inl below) in
        let in_words : i < length (words_in (take n store)) = omega (arith, front, length-map (take n store) (λ (w : Option ℕ). unwrap_or w 0)) in
        let in_store : i < length (take n store) = omega (arith, front) in
        get_or-map val (words_in (take n store)) i 0 (pos 0) in_words
        ∙ ap val (get_or-map (λ w. unwrap_or w 0) (take n store) i None 0 in_store ∙ ap (λ w. unwrap_or w 0) (get_or-take n store i None below) ∙ word_is val ps n store s i holds)
        ∙ holds.value ∙ sym (get_or-take n s i (pos 0) below)

pub meant_scans : NodesMeanScans
meant_scans f typed s is val words nodes =
    let first = fault_first f.cells f.scratch typed.begins_with_fault typed.whole_fault in
    front_is val (places_of f) (length f.cells) (run_of f).store _ first.few (shows_end f typed s is val words nodes)

-- ---- clauses

WordsAre-front : (val : ℕ → ℤ) (word : ℕ) (vs more : State) → WordsAre val word (vs ++ more) → WordsAre val word vs
WordsAre-front val word [] more are = tt
WordsAre-front val word (v ∷ vs) more are = (are.0, WordsAre-front val (word + 1) vs more are.1)

pub meant_clauses : NodesMeanClauses
meant_clauses cells e places typed reads s is val words nodes =
    let given = gives val (map of_cell cells) (start_words 0 (length cells)) s (λ place. place < length cells) known e types.Bool begun false typed reads (record { each = subst (λ w. NodesHold val w (clause_of (length cells) e).nodes) (sym starts) nodes }) fault in
    (given.word, given.fault)
  where
    begun : NodeList
    begun = record { starts = length cells + 1; nodes = []; fault = length cells }

    starts : (word_of (start_words 0 (length cells)) types.Bool e begun).list.starts ≡ length cells + 1
    starts = (grows_word (start_words 0 (length cells)) types.Bool e begun).starts

    long : length s ≡ length cells
    long = sym (IsInRange-length (ranges_of cells) s is) ∙ length-map cells (λ (c : CellData). c.range)

    fault : val (length cells) ≡ number_of false
    fault =
        ap val (sym long ∙ none (length s)) ∙ words_at val 0 (s ++ pos 0 ∷ []) (length s) (omega (arith, length-append s (pos 0 ∷ []))) words
        ∙ ap (λ i. slice_index_or (s ++ pos 0 ∷ []) i (pos 0)) (plus_none (length s)) ∙ get_or-append-add s (pos 0 ∷ []) 0 (pos 0)
      where
        none : (n : ℕ) → n ≡ 0 + n
        none n = omega arith

        plus_none : (n : ℕ) → n ≡ n + 0
        plus_none n = omega arith

    known : (p : ℕ) → p < length cells → Known val (map of_cell cells) (start_words 0 (length cells)) s p
    known p below =
        let same = length-map cells (λ (c : CellData). c.range) in
        let inside : in_range (slice_index_or s p (pos 0)) (place_at (map of_cell cells) p).range ≡ true = ap (λ (r : Range). in_range (slice_index_or s p (pos 0)) r) (range_of_cell p below) ∙ range_at-in (ranges_of cells) s p (omega (arith, same)) is in
        record {
          word = ap val (ap (λ w. unwrap_or w 0) (start_word_at 0 (length cells) p below)) ∙ words_at val 0 s p (omega (arith, long)) (WordsAre-front val 0 s (pos 0 ∷ []) words);
          inside = inside;
          typed = typed_at (map of_cell cells) p _ places inside;
        }
      where
        range_of_cell : (p : ℕ) → p < length cells → (place_at (map of_cell cells) p).range ≡ range_at (ranges_of cells) p
        range_of_cell p h = ap (λ qs. (place_at qs p).range) (sym (append-nil (map of_cell cells))) ∙ range_below cells [] p h
