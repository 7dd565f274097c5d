-- The nodes of a scan and of a clause are typed.
use Rattle.std.proofs.Common.{◌≡◌, inl, inr, ℕ, zero, suc, ◌+◌, ◌-◌, ◌<◌, ◌≤◌, Bool, true, false, refl, sym, ◌∙◌, ap, subst, List, [], ◌∷◌, ◌++◌, length, map, take, arith, rules, tests, Some, None, length-append}
use Rattle.std.specs.Prelude.{nat_lt, slice_index_or, unwrap_or}
use Rattle.std.proofs.lemmas.List.{length-map, get_or-append-add, get_or_append_left, append-nil}
use Rattle.plc_types.specs.declared.elementary.Elementary.{Elementary}
use Rattle.plc_types.specs.declared.elementary.Elementary.TheVariants as types
use Rattle.plc_types.specs.DataTypes.{carrier}
use Rattle.program_tree.specs.Tree.{CellData}
use Rattle.program_tree.specs.declared.scratch.Scratch.{Scratch}
use Rattle.program_tree.specs.Places.{of_cell, place_at}
use Rattle.scan_model.specs.InRange.{BeginsWithFault}
use Rattle.flat_core.specs.FlatTree.{FlatData}
use Rattle.flat_core.specs.FlatRules.{IsReadable}
use Rattle.node_core.specs.NodeTypes.{IsWordOf, all_kinds}
use Rattle.node_core.specs.Words.{NodeList, Store, word_at}
use Rattle.node_core.specs.Scans.{start_words, start_store, run_of, words_in, scan_of}
use Rattle.node_core.specs.TypedFlats.{IsTypedFlat}
use Rattle.node_core.specs.NodeLaws.{kinds_of, AreWordsOf, NodesOfScansAreTyped, NodesOfClausesAreTyped}
use Rattle.node_laws.proofs.TypedWords.{IsWordOf-more, IsWordOf-last, Reading, makes}
use Rattle.node_laws.proofs.TypedStores.{HoldsOne, Kinds, reads, kinds_all}
use Rattle.node_laws.proofs.MeantScans.{length-start_words, start_word_at, no_word}

-- a cell's start word is of the cell's type
start_kind : (cells : List CellData) (cs : List Scratch) (place : ℕ) → place < length cells → IsWordOf (kinds_of cells) (place_at (map of_cell cells ++ cs) place).kind place
start_kind [] cs place h = absurd (omega arith)
start_kind (c ∷ cells) cs zero h = refl
start_kind (c ∷ cells) cs (suc place) h = start_kind cells cs place (omega arith)

no_words : (cs : List Scratch) (i w : ℕ) → slice_index_or (map no_word cs) i None ≡ Some w → ⊥
no_words [] i w is = cc
no_words (c ∷ cs) zero w is = cc
no_words (c ∷ cs) (suc i) w is = no_words cs i w is

module _ (f : FlatData) (typed : IsTypedFlat f) where
  abbrev ps : List Scratch
  ps = map of_cell f.cells ++ f.scratch

  abbrev ts : List Elementary
  ts = kinds_of f.cells

  starts : length (start_words 0 (length f.cells)) ≡ length f.cells
  starts = length-start_words 0 (length f.cells)

  start_fits : (p w : ℕ) → slice_index_or (start_store f) p None ≡ Some w → IsWordOf (ts ++ []) (place_at ps p).kind w
  start_fits p w is = by_place (nat_lt p (length f.cells)) refl
    where
      by_place : (test : Bool) → nat_lt p (length f.cells) ≡ test → IsWordOf (ts ++ []) (place_at ps p).kind w
      by_place true e =
          let below : p < length f.cells = search (rules, tests) in
          let at = get_or_append_left (start_words 0 (length f.cells)) (map no_word f.scratch) None p (omega (arith, starts)) ∙ start_word_at 0 (length f.cells) p below in
          let same : Some (0 + p) ≡ Some w = sym at ∙ is in
          let word : 0 + p ≡ w = cc in
          IsWordOf-more ts [] (place_at ps p).kind w (subst (λ v. IsWordOf ts (place_at ps p).kind v) (none_plus p word) (start_kind f.cells f.scratch p below))
        where
          none_plus : (p : ℕ) → 0 + p ≡ w → p ≡ w
          none_plus p e = omega arith
      by_place false e =
          let above : length f.cells ≤ p = search (rules, tests) in
          let spelled : p ≡ length (start_words 0 (length f.cells)) + (p - length f.cells) = omega (arith, starts) in
          let at = ap (λ q. slice_index_or (start_store f) q None) spelled ∙ get_or-append-add (start_words 0 (length f.cells)) (map no_word f.scratch) (p - length f.cells) None in
          absurd (no_words f.scratch (p - length f.cells) w (sym at ∙ is))

  start_holds : (p : ℕ) → IsReadable (length f.cells) [] p → HoldsOne (start_store f) p
  start_holds p (inr none) = absurd none
  start_holds p (inl below) = (0 + p, get_or_append_left (start_words 0 (length f.cells)) (map no_word f.scratch) None p (omega (arith, starts)) ∙ start_word_at 0 (length f.cells) p below)

  start_length : length (start_store f) ≡ length ps
  start_length =
      length-append (start_words 0 (length f.cells)) (map no_word f.scratch) ∙ ap (λ n. n + length (map no_word f.scratch)) starts ∙ ap (λ n. length f.cells + n) (length-map f.scratch no_word)
      ∙ sym (length-append (map of_cell f.cells) f.scratch ∙ ap (λ n. n + length f.scratch) (length-map f.cells of_cell))

  some : BeginsWithFault f.cells → 0 < length f.cells
  some begins = by_cells f.cells begins
    where
      by_cells : (cells : List CellData) → BeginsWithFault cells → 0 < length cells
      by_cells [] begins = absurd begins
      by_cells (c ∷ cells) begins = omega arith

  bool : BeginsWithFault f.cells → (place_at ps 0).kind ≡ types.Bool
  bool begins = by_cells f.cells begins
    where
      by_cells : (cells : List CellData) → BeginsWithFault cells → (place_at (map of_cell cells ++ f.scratch) 0).kind ≡ types.Bool
      by_cells [] begins = absurd begins
      by_cells (c ∷ cells) begins = ap carrier begins.1

  begun : NodeList
  begun = record { starts = length f.cells; nodes = []; fault = 0 }

  ended : Kinds ts f.cells f.scratch typed.places (some typed.begins_with_fault) (bool typed.begins_with_fault) [] (run_of f).list (run_of f).store
  ended =
      kinds_all ts f.cells f.scratch typed.places (some typed.begins_with_fault) (bool typed.begins_with_fault) f.body [] (start_store f) (record { starts = length f.cells; nodes = []; fault = 0 }) typed.flat typed.statements
      (record {
        typed = record { starts = sym (length-map f.cells (λ (c : CellData). carrier c.kind)); each = tt };
        fit = record { long = start_length; each = start_fits };
        held = start_holds;
      })

-- the words of cells in front, each of its type
front_words : (ks : List Elementary) (cells : List CellData) (cs : List Scratch) (store : Store) → ((p : ℕ) → p < length cells → IsWordOf ks (place_at (map of_cell cells ++ cs) p).kind (word_at store p)) → length cells ≤ length store
    → AreWordsOf ks (kinds_of cells) (words_in (take (length cells) store))
front_words ks [] cs store each few = tt
front_words ks (c ∷ cells) cs [] each few = absurd (omega arith)
front_words ks (c ∷ cells) cs (w ∷ store) each few = (each 0 (omega arith), front_words ks cells cs store (λ p h. each (suc p) (omega arith)) (omega arith))

pub typed_scans : NodesOfScansAreTyped
typed_scans f typed =
    let k = ended f typed in
    let long = k.fit.long in (
      k.typed.each,
      front_words (all_kinds (kinds_of f.cells) (scan_of f).nodes) f.cells f.scratch (run_of f).store
          (λ p h. reads (kinds_of f.cells) f.cells f.scratch typed.places (some f typed typed.begins_with_fault) (bool f typed typed.begins_with_fault) [] (run_of f).list (run_of f).store p k (k.held p (inl h)))
          (omega (arith, length-append (map of_cell f.cells) f.scratch, length-map f.cells of_cell)),
    )

pub typed_clauses : NodesOfClausesAreTyped
unfolding Reading
typed_clauses cells e is may_read =
    let m = makes ts (map of_cell cells) (start_words 0 (length cells)) (λ place. place < length cells) e types.Bool begun is may_read reading (record { starts = count; each = tt }) fault in
    (m.typed.each, m.word, m.fault)
  where
    ts : List Elementary
    ts = kinds_of cells ++ types.Bool ∷ []

    begun : NodeList
    begun = record { starts = length cells + 1; nodes = []; fault = length cells }

    count : length cells + 1 ≡ length (kinds_of cells ++ types.Bool ∷ [])
    count = sym (length-append (kinds_of cells) (types.Bool ∷ []) ∙ ap (λ n. n + 1) (length-map cells (λ (c : CellData). carrier c.kind)))

    fault : IsWordOf (ts ++ []) types.Bool (length cells)
    fault = IsWordOf-more ts [] types.Bool (length cells) (subst (λ w. IsWordOf ts types.Bool w) (length-map cells (λ (c : CellData). carrier c.kind)) (IsWordOf-last (kinds_of cells) types.Bool))

    reading : (p : ℕ) → p < length cells → IsWordOf (ts ++ []) (place_at (map of_cell cells) p).kind (word_at (start_words 0 (length cells)) p)
    reading p below =
        let word : word_at (start_words 0 (length cells)) p ≡ 0 + p = ap (λ w. unwrap_or w 0) (start_word_at 0 (length cells) p below) in
        let kind : (place_at (map of_cell cells ++ []) p).kind ≡ (place_at (map of_cell cells) p).kind = ap (λ qs. (place_at qs p).kind) (append-nil (map of_cell cells)) in
        let one = IsWordOf-more ts [] _ p (IsWordOf-more (kinds_of cells) (types.Bool ∷ []) _ p (start_kind cells [] p below)) in
        subst (λ w. IsWordOf (ts ++ []) (place_at (map of_cell cells) p).kind w) (sym (word ∙ none_plus p)) (subst (λ k. IsWordOf (ts ++ []) k p) kind one)
      where
        none_plus : (p : ℕ) → 0 + p ≡ p
        none_plus p = omega arith
