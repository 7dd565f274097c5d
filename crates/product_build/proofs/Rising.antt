-- The counts of scans from the start rise to that of all gates.
use Rattle.std.proofs.Common.{◌≡◌, ℕ, zero, suc, ◌+◌, ◌≤◌, ap, ◌∙◌, List, [], length, length-append, arith}
use Rattle.clause_core.specs.declared.gate.Gate.{Gate}
use Rattle.gates.specs.Netlists.{Netlist, IsExtensionOf}
use Rattle.query_formulas.specs.CellShapes.{bits_of}
use Rattle.query_formulas.specs.Parts.{Parts}
use Rattle.query_formulas.specs.PairWords.{PairWords, free_words}
use Rattle.query_formulas.specs.Breaks.{scan_from, scans_from, breaks_bits, breaks_of, start_words}
use Rattle.query_formulas.proofs.Growth.{begun_net, extends_begun, extends_rest}
use Rattle.query_formula_laws.proofs.Runs.{breaks_in_order}
use Rattle.product_build.specs.Counts.{AreRising, AreScansInOrder}

more_gates : (n later : Netlist) → IsExtensionOf n later → length n.gates ≤ length later.gates
more_gates n later h =
    let e : length later.gates ≡ length n.gates + length h.more = ap (λ (gs : List Gate). length gs) h.gates ∙ length-append n.gates h.more in
    omega (arith, e)

rising_from : (parts : Parts) (k v : ℕ) (pair : PairWords) (n : Netlist) → AreRising (length n.gates) (length (scans_from parts k v pair n).net.gates) (scans_from parts k v pair n).scans
rising_from parts zero v pair n = omega arith
rising_from parts (suc k) v pair n =
    let inputs = free_words v parts.lines in
    let s = scan_from parts inputs pair n in
    let begun = begun_net parts inputs pair n in (
      more_gates n begun (extends_begun parts inputs pair n),
      more_gates begun s.net (extends_rest parts inputs pair n),
      rising_from parts k (v + bits_of parts.lines) s.pair s.net,
    )

rising : (parts : Parts) (limit : ℕ) → AreRising 0 (length (breaks_of parts limit).net.gates) (breaks_of parts limit).scans
rising parts limit = rising_from parts parts.depth 2 (start_words parts) (record { first = breaks_bits parts + 2; limit = limit; gates = [] })

pub scans_in_order : (parts : Parts) (limit : ℕ) → AreScansInOrder (breaks_of parts limit)
scans_in_order parts limit = record { order = breaks_in_order parts limit; rising = rising parts limit }
