-- The words behind a scan have the values of the cells that the scan leaves.
use Rattle.std.proofs.Common.{◌≡◌, ℕ, Bool, refl, sym, ◌∙◌, ap, subst, List, [], ◌∷◌, map, ℤ}
use Rattle.std.specs.List.{AllZip}
use Rattle.plc_types.specs.declared.elementary.Elementary.{Elementary}
use Rattle.program_tree.specs.Tree.{CellData, ProgramData}
use Rattle.meaning.specs.Values.{State}
use Rattle.scan_model.specs.Scans.{ranges_of, scanned}
use Rattle.scan_model.specs.InRange.{IsInRange}
use Rattle.scan_model.specs.Pairs.{Pair, IsPairInRange, scanned_both}
use Rattle.flat_core.specs.FlatTree.{FlatData}
use Rattle.flat_core.specs.FlatScans.{flat_scanned}
use Rattle.gates.specs.Netlists.{Netlist}
use Rattle.gates.specs.Models.{IsModel}
use Rattle.gates.proofs.Growth.{IsModel-front}
use Rattle.node_core.specs.Nodes.{WordsAre, NodesHold}
use Rattle.node_core.specs.NodeTypes.{IsWordOf, all_kinds}
use Rattle.node_core.specs.NodeLaws.{kinds_of}
use Rattle.node_core.specs.Scans.{ScanData, scan_of}
use Rattle.node_core.specs.TypedFlats.{IsTypedFlat}
use Rattle.node_laws.proofs.MeantScans.{meant_scans}
use Rattle.node_laws.proofs.TypedScans.{typed_scans}
use Rattle.node_circuits.specs.NodeWords.{Words, word_in, words_of_nodes}
use Rattle.node_circuit_laws.specs.WordValues.{HaveWidths, value_at, values_of}
use Rattle.node_circuit_laws.proofs.Widths.{widths_of_nodes}
use Rattle.node_circuit_laws.proofs.Words.{width_at, HasValues-all}
use Rattle.node_circuit_laws.proofs.NodeValues.{values_of_nodes, start_values}
use Rattle.query_formulas.specs.PairWords.{PairWords}
use Rattle.query_formulas.specs.PairScans.{scanned_words, scanned_pair}
use Rattle.query_formulas.proofs.Growth.{extends_scan}
use Rattle.query_formulas.proofs.Widths.{widths-cons}
use Rattle.query_formula_laws.specs.TypedComparisons.{IsScanOf}
use Rattle.query_formula_laws.proofs.Values.{words_are, same_place}
use Rattle.query_formula_laws.proofs.Spelled.{Spells, SpellsPair, length-spelled}

-- ---- words by their numbers

found_widths : (all ts : List Elementary) (words : Words) (last : List ℕ) → HaveWidths all words → AllZip (λ t w. IsWordOf all t w) ts last → HaveWidths ts (map (word_in words) last)
found_widths all [] words [] h are = refl
found_widths all [] words (i ∷ last) h are = absurd are
found_widths all (t ∷ ts) words [] h are = absurd are
found_widths all (t ∷ ts) words (i ∷ last) h are = widths-cons t ts (word_in words i) (map (word_in words) last) (width_at all words t i h are.0) (found_widths all ts words last h are.1)

found_values : (v : ℕ → Bool) (all ts : List Elementary) (words : Words) (last : List ℕ) → AllZip (λ t w. IsWordOf all t w) ts last → values_of v ts (map (word_in words) last) ≡ map (value_at v all words) last
found_values v all [] words [] are = refl
found_values v all [] words (i ∷ last) are = absurd are
found_values v all (t ∷ ts) words [] are = absurd are
found_values v all (t ∷ ts) words (i ∷ last) are =
    let every = HasValues-all v all words in
    ap (λ (x : ℤ). x ∷ values_of v ts (map (word_in words) last)) (sym (every.at i t are.0)) ∙ ap (λ (xs : State). value_at v all words i ∷ xs) (found_values v all ts words last are.1)

-- ---- one program

flat_spells : (v : ℕ → Bool) (f : FlatData) (words : Words) (s : State) (n : Netlist) → IsTypedFlat f → Spells v f.cells words s → IsInRange (ranges_of f.cells) s → IsModel v (scanned_words (scan_of f) words n).net
    → Spells v f.cells (scanned_words (scan_of f) words n).words (flat_scanned f s)
flat_spells v f words s n typed h inside model =
    let ts = kinds_of f.cells in
    let nodes = (scan_of f).nodes in
    let m = words_of_nodes nodes words n in
    let is = typed_scans f typed in
    let val = value_at v (all_kinds ts nodes) m.words in
    let hold = values_of_nodes ts nodes words n v is.0 h.widths model in
    let are : WordsAre val 0 (values_of v ts words) = words_are v val 0 ts words h.widths (λ i j e lt. same_place val i j e ∙ start_values ts nodes words n v i h.widths lt) in
    let meant = meant_scans f typed s inside val (subst (λ (y : State). WordsAre val 0 y) h.values are) (subst (λ (k : ℕ). NodesHold val k nodes) (length-spelled v f.cells words s h) hold) in
    record {
      widths = found_widths (all_kinds ts nodes) ts m.words (scan_of f).last (widths_of_nodes ts nodes words n h.widths) is.1;
      values = found_values v (all_kinds ts nodes) ts m.words (scan_of f).last is.1 ∙ meant;
    }

pub spells_scanned : (v : ℕ → Bool) (p : ProgramData) (d : ScanData) (words : Words) (s : State) (n : Netlist) → IsScanOf p d → Spells v p.cells words s → IsInRange (ranges_of p.cells) s → IsModel v (scanned_words d words n).net
    → Spells v p.cells (scanned_words d words n).words (scanned p s)
spells_scanned v p d words s n is h inside model =
    let f = is.flat in
    let m : IsModel v (scanned_words (scan_of f) words n).net = subst (λ (x : ScanData). IsModel v (scanned_words x words n).net) is.is model in
    let g : Spells v f.cells words s = subst (λ (cs : List CellData). Spells v cs words s) (sym is.cells) h in
    let low : IsInRange (ranges_of f.cells) s = subst (λ (cs : List CellData). IsInRange (ranges_of cs) s) (sym is.cells) inside in
    let behind = flat_spells v f words s n is.typed g low m in
    let moved : Spells v p.cells (scanned_words (scan_of f) words n).words (flat_scanned f s) = subst (λ (cs : List CellData). Spells v cs (scanned_words (scan_of f) words n).words (flat_scanned f s)) is.cells behind in
    let named : Spells v p.cells (scanned_words (scan_of f) words n).words (scanned p s) = subst (λ (y : State). Spells v p.cells (scanned_words (scan_of f) words n).words y) (is.leaves s inside) moved in
    subst (λ (x : ScanData). Spells v p.cells (scanned_words x words n).words (scanned p s)) (sym is.is) named

-- ---- both programs

pub spells_both : (v : ℕ → Bool) (p q : ProgramData) (a b : ScanData) (words : PairWords) (pair : Pair) (n : Netlist) → IsScanOf p a → IsScanOf q b → SpellsPair v p q words pair → IsPairInRange p q pair → IsModel v (scanned_pair a b words n).net
    → SpellsPair v p q (scanned_pair a b words n).pair (scanned_both p q pair)
spells_both v p q a b words pair n is_a is_b h inside m =
    let o = scanned_words a words.old n in
    let m_old = IsModel-front v o.net _ (extends_scan b words.new o.net) m in
    record {
      old = spells_scanned v p a words.old pair.old n is_a h.old inside.0 m_old;
      new = spells_scanned v q b words.new pair.new o.net is_b h.new inside.1 m;
    }
