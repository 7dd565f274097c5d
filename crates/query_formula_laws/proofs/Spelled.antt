-- Words that have the values of a state or of a pair, and rows that are loaded into them.
use Rattle.std.proofs.Common.{◌≡◌, ℕ, zero, suc, ◌<◌, Bool, ◌&&◌, refl, sym, ◌∙◌, ap, subst, List, [], ◌∷◌, ◌++◌, length, arith, ℤ}
use Rattle.std.specs.Prelude.{slice_set, All}
use Rattle.std.proofs.lemmas.List.Elements.{All-head, All-tail, All-get_or, All-nil, All-cons}
use Rattle.clause_core.specs.declared.literal.Lit.{Lit}
use Rattle.plc_types.specs.declared.elementary.Elementary.{Elementary}
use Rattle.plc_types.specs.declared.range.Range.{Range}
use Rattle.plc_types.specs.DataTypes.{carrier}
use Rattle.plc_types.specs.Types.{width_of, is_signed, in_range}
use Rattle.program_tree.specs.Tree.{CellData, ProgramData}
use Rattle.meaning.specs.Values.{State}
use Rattle.meaning.specs.Effects.{range_at}
use Rattle.scan_model.specs.declared.relation.InputLine.{InputLine}
use Rattle.scan_model.specs.declared.relation.InputLine.TheVariants.{Both, Old, New}
use Rattle.scan_model.specs.InRange.{Row}
use Rattle.scan_model.specs.Scans.{ranges_of}
use Rattle.scan_model.specs.Pairs.{Pair, NamesCells, fits_lines, range_of_line, loaded_one, loaded}
use Rattle.queries.specs.Ranges.{are_in_range}
use Rattle.word_laws.specs.Numbers.{value}
use Rattle.node_core.specs.NodeTypes.{IsWordOf}
use Rattle.node_core.specs.NodeLaws.{kinds_of}
use Rattle.node_circuits.specs.NodeWords.{Words}
use Rattle.node_circuit_laws.specs.WordValues.{HaveWidths, values_of}
use Rattle.query_formulas.specs.PairWords.{PairWords, loaded_word, loaded_words}
use Rattle.query_formulas.specs.CellShapes.{cell_at, cell_of_line, cells_of_lines}
use Rattle.queries.specs.Comparisons.{Comparison}
use Rattle.query_formulas.specs.Parts.{lines_cells}
use Rattle.query_formula_laws.specs.TypedComparisons.{NamesAlike, IsTypedCell, IsTypedComparison}
use Rattle.query_formula_laws.proofs.Values.{widths-head, widths-tail, widths-none, widths-more, widths-append, widths-set, values-append, values-set}

-- the words of cells have the values of a state
pub record Spells (v : ℕ → Bool) (cells : List CellData) (ws : Words) (s : State) : Type 0 where
  pub widths : HaveWidths (kinds_of cells) ws
  pub values : values_of v (kinds_of cells) ws ≡ s

pub record SpellsPair (v : ℕ → Bool) (p q : ProgramData) (words : PairWords) (pair : Pair) : Type 0 where
  pub old : Spells v p.cells words.old pair.old
  pub new : Spells v q.cells words.new pair.new

-- one word for each cell
pub length-spelled : (v : ℕ → Bool) (cells : List CellData) (ws : Words) (s : State) → Spells v cells ws s → length ws ≡ length cells
length-spelled v cells ws s h = same cells ws h.widths
  where
    same : (cells : List CellData) (ws : Words) → HaveWidths (kinds_of cells) ws → length ws ≡ length cells
    same [] [] h = refl
    same [] (w ∷ ws) h = widths-more w ws h
    same (c ∷ cells) [] h = widths-none _ _ h
    same (c ∷ cells) (w ∷ ws) h = ap suc (same cells ws (widths-tail _ _ w ws h))

kinds-append : (cs ds : List CellData) → kinds_of (cs ++ ds) ≡ kinds_of cs ++ kinds_of ds
kinds-append [] ds = refl
kinds-append (c ∷ cs) ds = ap (λ (ts : List Elementary). carrier c.kind ∷ ts) (kinds-append cs ds)

pub Spells-append : (v : ℕ → Bool) (cs ds : List CellData) (ws xs : Words) (s t : State) → Spells v cs ws s → Spells v ds xs t → Spells v (cs ++ ds) (ws ++ xs) (s ++ t)
Spells-append v cs ds ws xs s t h k = record {
  widths = subst (λ (ts : List Elementary). HaveWidths ts (ws ++ xs)) (sym (kinds-append cs ds)) (widths-append (kinds_of cs) (kinds_of ds) ws xs h.widths k.widths);
  values =
      ap (λ (ts : List Elementary). values_of v ts (ws ++ xs)) (kinds-append cs ds) ∙ values-append v (kinds_of cs) (kinds_of ds) ws xs h.widths
      ∙ ap (λ (y : State). y ++ values_of v (kinds_of ds) xs) h.values ∙ ap (λ (y : State). s ++ y) k.values;
}

-- ---- the cells of INPUT lines

pub kind_at : (cells : List CellData) (p : ℕ) → p < length cells → IsWordOf (kinds_of cells) (carrier (cell_at cells p).kind) p
kind_at [] p h = absurd (omega arith)
kind_at (c ∷ cells) zero h = refl
kind_at (c ∷ cells) (suc p) h = kind_at cells p (omega arith)

range_of_cell : (cells : List CellData) (p : ℕ) → p < length cells → range_at (ranges_of cells) p ≡ (cell_at cells p).range
range_of_cell [] p h = absurd (omega arith)
range_of_cell (c ∷ cells) zero h = refl
range_of_cell (c ∷ cells) (suc p) h = range_of_cell cells p (omega arith)

line_range : (old new : ProgramData) (l : InputLine) → NamesCells old new l → range_of_line l ≡ (cell_of_line old new l).range
line_range old new (Both r p q) h = sym h.0.1 ∙ range_of_cell old.cells p h.0.0
line_range old new (Old r p) h = sym h.1 ∙ range_of_cell old.cells p h.0
line_range old new (New r q) h = sym h.1 ∙ range_of_cell new.cells q h.0

-- a row fits where its numbers lie in the ranges of the cells
pub fits_cells : (old new : ProgramData) (ls : List InputLine) (row : Row) → All (NamesCells old new) ls → fits_lines ls row ≡ are_in_range (ranges_of (cells_of_lines old new ls)) row
fits_cells old new [] [] h = refl
fits_cells old new [] (x ∷ row) h = refl
fits_cells old new (l ∷ ls) [] h = refl
fits_cells old new (l ∷ ls) (x ∷ row) h =
    ap (λ (r : Range). in_range x r && fits_lines ls row) (line_range old new l (All-head (NamesCells old new) l ls h))
    ∙ ap (λ (b : Bool). in_range x (cell_of_line old new l).range && b) (fits_cells old new ls row (All-tail (NamesCells old new) l ls h))

typed_line : (old new : ProgramData) (l : InputLine) → NamesCells old new l → All IsTypedCell old.cells → All IsTypedCell new.cells → IsTypedCell (cell_of_line old new l)
typed_line old new (Both r p q) h o w = All-get_or IsTypedCell old.cells p _ h.0.0 o
typed_line old new (Old r p) h o w = All-get_or IsTypedCell old.cells p _ h.0 o
typed_line old new (New r q) h o w = All-get_or IsTypedCell new.cells q _ h.0 w

typed_lines : (old new : ProgramData) (ls : List InputLine) → All (NamesCells old new) ls → All IsTypedCell old.cells → All IsTypedCell new.cells → All IsTypedCell (cells_of_lines old new ls)
typed_lines old new [] h o w = All-nil IsTypedCell
typed_lines old new (l ∷ ls) h o w =
    All-cons IsTypedCell (cell_of_line old new l) (cells_of_lines old new ls) (typed_line old new l (All-head (NamesCells old new) l ls h) o w) (typed_lines old new ls (All-tail (NamesCells old new) l ls h) o w)

pub lines_typed : (c : Comparison) → IsTypedComparison c → All IsTypedCell (lines_cells c)
lines_typed c t = typed_lines c.old c.new c.relation.inputs t.comparison.relatable.belongs t.old_cells t.new_cells

-- ---- loading

-- a word that reads as a number of a cell
pub record Reads (v : ℕ → Bool) (t : Elementary) (w : List Lit) (x : ℤ) : Type 0 where
  pub width : length w ≡ width_of t
  pub is : value (is_signed t) v w ≡ x

Reads-same : (v : ℕ → Bool) (t u : Elementary) (w : List Lit) (x : ℤ) → t ≡ u → Reads v t w x → Reads v u w x
Reads-same v t u w x e h = subst (λ (k : Elementary). Reads v k w x) e h

Spells-put : (v : ℕ → Bool) (cells : List CellData) (ws : Words) (s : State) (p : ℕ) (w : List Lit) (x : ℤ) → Spells v cells ws s → p < length cells → Reads v (carrier (cell_at cells p).kind) w x → Spells v cells (slice_set ws p w) (slice_set s p x)
Spells-put v cells ws s p w x h low r =
    let t = carrier (cell_at cells p).kind in
    let is = kind_at cells p low in
    record {
      widths = widths-set (kinds_of cells) ws p t w h.widths is r.width;
      values = values-set v (kinds_of cells) ws p t w h.widths is ∙ ap (λ (y : State). slice_set y p (value (is_signed t) v w)) h.values ∙ ap (λ (y : ℤ). slice_set s p y) r.is;
    }

spells_line : (v : ℕ → Bool) (old new : ProgramData) (l : InputLine) (w : List Lit) (x : ℤ) (words : PairWords) (pair : Pair) → NamesCells old new l → NamesAlike old new l → Reads v (carrier (cell_of_line old new l).kind) w x → SpellsPair v old new words pair
    → SpellsPair v old new (loaded_word l w words) (loaded_one l x pair)
spells_line v old new (Both r p q) w x words pair names alike is h = record {
  old = Spells-put v old.cells words.old pair.old p w x h.old names.0.0 is;
  new = Spells-put v new.cells words.new pair.new q w x h.new names.1.0 (Reads-same v _ _ w x alike is);
}
spells_line v old new (Old r p) w x words pair names alike is h = record { old = Spells-put v old.cells words.old pair.old p w x h.old names.0 is; new = h.new }
spells_line v old new (New r q) w x words pair names alike is h = record { old = h.old; new = Spells-put v new.cells words.new pair.new q w x h.new names.0 is }

pub spells_loaded : (v : ℕ → Bool) (old new : ProgramData) (ls : List InputLine) (ws : Words) (row : Row) (words : PairWords) (pair : Pair) → All (NamesCells old new) ls → All (NamesAlike old new) ls → Spells v (cells_of_lines old new ls) ws row → SpellsPair v old new words pair
    → SpellsPair v old new (loaded_words ls ws words) (loaded ls row pair)
spells_loaded v old new [] ws row words pair names alike r h = h
spells_loaded v old new (l ∷ ls) [] row words pair names alike r h = widths-none _ _ r.widths
spells_loaded v old new (l ∷ ls) (w ∷ ws) [] words pair names alike r h = let e = r.values in absurd (cc)
spells_loaded v old new (l ∷ ls) (w ∷ ws) (x ∷ row) words pair names alike r h =
    let e = r.values in
    let t = carrier (cell_of_line old new l).kind in
    let here : value (is_signed t) v w ≡ x = cc in
    let rest : values_of v (kinds_of (cells_of_lines old new ls)) ws ≡ row = cc in
    spells_loaded v old new ls ws row (loaded_word l w words) (loaded_one l x pair) (All-tail (NamesCells old new) l ls names) (All-tail (NamesAlike old new) l ls alike)
    (record { widths = widths-tail _ _ w ws r.widths; values = rest })
    (spells_line v old new l w x words pair (All-head (NamesCells old new) l ls names) (All-head (NamesAlike old new) l ls alike) (record { width = widths-head _ _ w ws r.widths; is = here }) h)
