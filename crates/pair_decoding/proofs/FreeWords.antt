-- Free words are as wide as the types of their cells.
use Rattle.std.proofs.Common.{ℕ, zero, suc, ◌+◌, []}
use Rattle.std.proofs.lemmas.List.Elements.{All-nil, All-cons}
use Rattle.gates.specs.Netlists.{Netlist}
use Rattle.query_formulas.specs.CellShapes.{bits_of}
use Rattle.query_formulas.specs.Parts.{Parts}
use Rattle.query_formulas.specs.PairWords.{PairWords, free_words}
use Rattle.query_formulas.specs.Products.{product_of}
use Rattle.query_formulas.specs.Breaks.{ScanLiterals, scan_from, scans_from, start_words, breaks_bits, breaks_of}
use Rattle.query_formulas.proofs.Widths.{widths-free}
use Rattle.pair_decoding.specs.Widths.{AreWide, IsWideProduct, AreWideRows}

pub product_wide : (parts : Parts) (limit : ℕ) → IsWideProduct parts (product_of parts limit)
product_wide parts limit = record {
  old = widths-free 2 parts.old;
  new = widths-free (2 + bits_of parts.old) parts.new;
  inputs = widths-free (2 + bits_of parts.old + bits_of parts.new) parts.lines;
}

scans_wide : (parts : Parts) (scans v : ℕ) (pair : PairWords) (n : Netlist) → AreWideRows parts.lines (scans_from parts scans v pair n).scans
scans_wide parts zero v pair n = All-nil (λ (s : ScanLiterals). AreWide parts.lines s.inputs)
scans_wide parts (suc scans) v pair n =
    let s = scan_from parts (free_words v parts.lines) pair n in
    All-cons (λ (s : ScanLiterals). AreWide parts.lines s.inputs) s.lits _ (widths-free v parts.lines) (scans_wide parts scans (v + bits_of parts.lines) s.pair s.net)

pub breaks_wide : (parts : Parts) (limit : ℕ) → AreWideRows parts.lines (breaks_of parts limit).scans
breaks_wide parts limit = scans_wide parts parts.depth 2 (start_words parts) (record { first = breaks_bits parts + 2; limit = limit; gates = [] })
