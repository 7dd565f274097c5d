-- Settings of free bits that spell a pair and a row, and assignments that agree with them.
use Rattle.std.proofs.Common.{◌≡◌, ℕ, zero, suc, ◌+◌, ◌≤◌, Bool, true, refl, sym, ◌∙◌, ap, List, [], ◌∷◌, ◌++◌, length, map, arith, ℤ}
use Rattle.std.specs.Prelude.{All}
use Rattle.std.proofs.lemmas.List.Elements.{All-head, All-tail}
use Rattle.clause_core.specs.Satisfaction.{literal_true, assigned}
use Rattle.plc_types.specs.declared.elementary.Elementary.{Elementary}
use Rattle.plc_types.specs.DataTypes.{carrier}
use Rattle.plc_types.specs.Types.{width_of, is_signed, range_of}
use Rattle.plc_types.proofs.InRange.{in_range_from, between_in}
use Rattle.program_tree.specs.Tree.{CellData}
use Rattle.meaning.specs.Values.{State}
use Rattle.scan_model.specs.Scans.{ranges_of}
use Rattle.scan_model.specs.InRange.{Row, IsInRange}
use Rattle.scan_model.specs.Pairs.{Pair, fits_lines, all_hold, loaded, is_allowed}
use Rattle.std.proofs.lemmas.Bool.{and_parts}
use Rattle.queries.specs.Comparisons.{Comparison}
use Rattle.queries.proofs.SettingLemmas.{IsInRange-test}
use Rattle.query_formulas.specs.Parts.{lines_cells}
use Rattle.gates.specs.Models.{Agrees}
use Rattle.word_laws.specs.Numbers.{value}
use Rattle.node_core.specs.NodeLaws.{kinds_of}
use Rattle.node_circuit_laws.specs.WordValues.{values_of}
use Rattle.query_formulas.specs.CellShapes.{bits_of, shapes_of}
use Rattle.query_formulas.specs.PairWords.{free_word, free_words}
use Rattle.query_formulas.specs.Decoded.{decoded_state}
use Rattle.query_formula_laws.specs.TypedComparisons.{IsTypedCell, IsTypedComparison}
use Rattle.query_formula_laws.proofs.TypedValues.{AreOfTypes}
use Rattle.query_formula_laws.proofs.FreeBits.{value_bits, joined}
use Rattle.query_formula_laws.proofs.FreeWords.{value_by_bits, free_values, types_same, widths-free}
use Rattle.query_formula_laws.proofs.Spelled.{Spells, fits_cells, lines_typed}

-- values in the ranges of cells are of their types
pub of_types : (cells : List CellData) (s : State) → All IsTypedCell cells → IsInRange (ranges_of cells) s → AreOfTypes (kinds_of cells) s
of_types [] [] typed h = tt
of_types [] (x ∷ s) typed h = absurd h
of_types (c ∷ cells) [] typed h = absurd h
of_types (c ∷ cells) (x ∷ s) typed h =
    let here = All-head IsTypedCell c cells typed in (
      between_in (range_of (carrier c.kind)) c.range x here.place.0 here.place.1 (in_range_from x c.range h.0 h.1),
      of_types cells s (All-tail IsTypedCell c cells typed) h.2,
    )

-- a row that fits is of the types of its cells
pub row_types : (c : Comparison) → IsTypedComparison c → (row : Row) → fits_lines c.relation.inputs row ≡ true → AreOfTypes (kinds_of (lines_cells c)) row
row_types c t row fits =
    of_types (lines_cells c) row (lines_typed c t) (IsInRange-test (ranges_of (lines_cells c)) row (sym (fits_cells c.old c.new c.relation.inputs row t.comparison.relatable.belongs) ∙ fits))

pub allowed_fits : (c : Comparison) (pair : Pair) (row : Row) → is_allowed c.relation row pair ≡ true → fits_lines c.relation.inputs row ≡ true
allowed_fits c pair row h = let parts = and_parts (fits_lines c.relation.inputs row) (all_hold c.relation.environment (loaded c.relation.inputs row pair)) h in parts.0

-- ---- free words in an assignment

-- they spell what they are read as
pub free_read : (v : ℕ → Bool) (k : ℕ) (cells : List CellData) → Spells v cells (free_words k (shapes_of cells)) (decoded_state (shapes_of cells) (free_words k (shapes_of cells)) v)
free_read v k cells = record { widths = widths-free k cells; values = ap (λ (ts : List Elementary). values_of v ts (free_words k (shapes_of cells))) (sym (types_same cells)) }

-- and what they are given
pub free_given : (cells : List CellData) (s : State) (front back values : List Bool) (k : ℕ) → AreOfTypes (kinds_of cells) s → values ≡ front ++ joined (value_bits (kinds_of cells) s) ++ back → k ≡ length front
    → Spells (assigned values) cells (free_words k (shapes_of cells)) s
free_given cells s front back values k h e f = record { widths = widths-free k cells; values = free_values cells s front back values k h e f }

bits_agree : (v u : ℕ → Bool) (x k w : ℕ) → Agrees x v u → k + w ≤ x → map (literal_true v) (free_word k w) ≡ map (literal_true u) (free_word k w)
bits_agree v u x k zero a low = refl
bits_agree v u x k (suc w) a low =
    let here : v k ≡ u k = a k (omega arith) in
    ap (λ (b : Bool). b ∷ map (literal_true v) (free_word (k + 1) w)) here ∙ ap (λ (bs : List Bool). u k ∷ bs) (bits_agree v u x (k + 1) w a (omega arith))

values_agree : (v u : ℕ → Bool) (x k : ℕ) (cells : List CellData) → Agrees x v u → k + bits_of (shapes_of cells) ≤ x → values_of v (kinds_of cells) (free_words k (shapes_of cells)) ≡ values_of u (kinds_of cells) (free_words k (shapes_of cells))
values_agree v u x k [] a low = refl
values_agree v u x k (c ∷ cells) a low =
    let t = carrier c.kind in
    let ts = kinds_of cells in
    let first = free_word k (width_of t) in
    let rest = free_words (k + width_of t) (shapes_of cells) in
    ap (λ (y : ℤ). y ∷ values_of v ts rest) (value_by_bits (is_signed t) v u first first (bits_agree v u x k (width_of t) a (omega arith)))
    ∙ ap (λ (ys : State). value (is_signed t) u first ∷ ys) (values_agree v u x (k + width_of t) cells a (omega arith))

-- an assignment that agrees on the free bits spells the same
pub free_agree : (v u : ℕ → Bool) (x k : ℕ) (cells : List CellData) (s : State) → Agrees x v u → k + bits_of (shapes_of cells) ≤ x → Spells u cells (free_words k (shapes_of cells)) s → Spells v cells (free_words k (shapes_of cells)) s
free_agree v u x k cells s a low h = record { widths = h.widths; values = values_agree v u x k cells a low ∙ h.values }
