-- The pair at the start.
use Rattle.std.proofs.Common.{◌≡◌, ℕ, Bool, true}
use Rattle.scan_model.specs.Scans.{initial}
use Rattle.scan_model.specs.Pairs.{IsPairInRange, start}
use Rattle.queries.specs.Comparisons.{Comparison}
use Rattle.gates.specs.Netlists.{Netlist}
use Rattle.gates.specs.Order.{IsOrdered}
use Rattle.node_core.specs.Scans.{ScanData}
use Rattle.query_formulas.specs.CellShapes.{bits_of, shapes_of}
use Rattle.query_formulas.specs.Parts.{lines_cells, parts_of}
use Rattle.query_formulas.specs.Breaks.{start_words}
use Rattle.query_formula_laws.specs.TypedComparisons.{IsTypedComparison}
use Rattle.query_formula_laws.proofs.FreeWords.{widths-initial, values-initial}
use Rattle.query_formula_laws.proofs.Spelled.{SpellsPair}
use Rattle.query_formula_laws.proofs.Orders.{PairOf, initial_words_of}
use Rattle.query_formula_laws.proofs.Given.{of_types}

-- how many bits a row has
abbrev pub line_bits : Comparison → ℕ
line_bits c = bits_of (shapes_of (lines_cells c))

pub start_inside : (c : Comparison) → IsTypedComparison c → IsPairInRange c.old c.new (start c.old c.new)
start_inside c t =
    let old = t.comparison.relatable.old_is_program in
    let new = t.comparison.relatable.new_is_program in
    (old.start_in_range, new.start_in_range)

pub start_spelled : (v : ℕ → Bool) (c : Comparison) (a b : ScanData) → IsTypedComparison c → v 1 ≡ true → SpellsPair v c.old c.new (start_words (parts_of c a b)) (start c.old c.new)
start_spelled v c a b t one =
    let inside = start_inside c t in
    record {
      old = record { widths = widths-initial c.old.cells; values = values-initial v c.old.cells one (of_types c.old.cells (initial c.old.cells) t.old_cells inside.0) };
      new = record { widths = widths-initial c.new.cells; values = values-initial v c.new.cells one (of_types c.new.cells (initial c.new.cells) t.new_cells inside.1) };
    }

pub start_of : (n : Netlist) (c : Comparison) (a b : ScanData) → IsOrdered n → PairOf n (start_words (parts_of c a b))
start_of n c a b o = record { old = initial_words_of n (shapes_of c.old.cells) o; new = initial_words_of n (shapes_of c.new.cells) o }
