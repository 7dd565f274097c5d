-- Scans one by one, and the first of them: how wide their words are, and what their rows are.
use Rattle.std.proofs.Common.{◌≡◌, ℕ, zero, suc, ◌<◌, Bool, sym, ◌∙◌, ap, subst, List, [], ◌∷◌, length, map, take, arith}
use Rattle.std.specs.Prelude.{slice_index_or}
use Rattle.std.specs.List.{take-map}
use Rattle.std.proofs.lemmas.List.Elements.{All-head, All-tail, All-take}
use Rattle.meaning.specs.Values.{State}
use Rattle.scan_model.specs.InRange.{Row}
use Rattle.node_circuits.specs.NodeWords.{words_view}
use Rattle.query_formulas.specs.Decoded.{DecodedData, decoded_state, first_state, scans_decoded}
use Rattle.pair_circuits.specs.declared.breaks.ScanLits.{ScanLits}
use Rattle.query_formulas.specs.declared.shapes.CellShape.{CellShape}
use Rattle.query_formulas.specs.Parts.{Parts}
use Rattle.query_formulas.specs.Breaks.{ScanLiterals}
use Rattle.pair_circuits.specs.Views.{scan_lits_view}
use Rattle.pair_decoding.specs.Widths.{AreWide, AreWideRows}

-- ---- widths

pub wide_at : (cells : List CellShape) (scans : List ScanLits) (i : ℕ) (s : ScanLits) → i < length scans → s ≡ slice_index_or scans i s → AreWideRows cells (map scan_lits_view scans) → AreWide cells (words_view s.inputs.items)
wide_at cells [] i s lt e h = absurd (omega arith)
wide_at cells (x ∷ scans) zero s lt e h =
    subst (λ (y : ScanLits). AreWide cells (words_view y.inputs.items)) (sym e) (All-head (λ (y : ScanLiterals). AreWide cells y.inputs) (scan_lits_view x) (map scan_lits_view scans) h)
wide_at cells (x ∷ scans) (suc i) s lt e h = wide_at cells scans i s (omega arith) e (All-tail (λ (y : ScanLiterals). AreWide cells y.inputs) (scan_lits_view x) (map scan_lits_view scans) h)

pub wide_front : (cells : List CellShape) (count : ℕ) (scans : List ScanLits) → AreWideRows cells (map scan_lits_view scans) → AreWideRows cells (map scan_lits_view (take count scans))
wide_front cells count scans h =
    subst (λ (ss : List ScanLiterals). AreWideRows cells ss) (take-map scan_lits_view count scans) (All-take (λ (s : ScanLiterals). AreWide cells s.inputs) count (map scan_lits_view scans) h)

-- ---- what is put together

abbrev with_rows : State → State → List Row → DecodedData
with_rows old new rows = record { pair = record { old = old; new = new }; rows = rows }

abbrev pub rows_of : (ℕ → Bool) → List CellShape → List ScanLiterals → List Row
rows_of v cells ss = map (λ s. decoded_state cells s.inputs v) ss

pub run_decoded : (v : ℕ → Bool) (parts : Parts) (count : ℕ) (scans : List ScanLits) (old new : State) (rows : List Row)
    → old ≡ first_state parts.old → new ≡ first_state parts.new → rows ≡ rows_of v parts.lines (map scan_lits_view (take count scans))
    → with_rows old new rows ≡ scans_decoded parts (map scan_lits_view scans) count v
run_decoded v parts count scans old new rows e f g =
    ap (λ (s : State). with_rows s new rows) e ∙ ap (λ (s : State). with_rows (first_state parts.old) s rows) f
    ∙ ap (with_rows (first_state parts.old) (first_state parts.new)) (g ∙ ap (rows_of v parts.lines) (sym (take-map scan_lits_view count scans)))
