-- The pieces of the circuit of one scan: what a step makes is a front of what the whole makes.
use Rattle.std.proofs.Common.{◌≡◌, ℕ, ◌+◌, refl, []}
use Rattle.gates.specs.Netlists.{Netlist, IsExtensionOf}
use Rattle.gates.proofs.Growth.{extends_self, extends_then}
use Rattle.node_circuits.specs.NodeWords.{Words}
use Rattle.query_formulas.specs.Parts.{Parts}
use Rattle.query_formulas.specs.PairWords.{PairWords, loaded_words}
use Rattle.query_formulas.specs.Literals.{outside_cells, pair_literals}
use Rattle.query_formulas.specs.PairScans.{scanned_words, scanned_pair}
use Rattle.node_core.specs.Scans.{ScanData}
use Rattle.query_formulas.specs.Products.{outside_all, premises_from, loaded_row, consequences_from, product_from, product_bits, product_of}
use Rattle.query_formulas.proofs.Growth.{extends_outside_cells, extends_pair_literals, extends_scan, extends_scans, extends_row}

pub after_old_scan : (old new : ScanData) (pair : PairWords) (n : Netlist) → IsExtensionOf (scanned_words old pair.old n).net (scanned_pair old new pair n).net
after_old_scan old new pair n = extends_scan new pair.new (scanned_words old pair.old n).net

pub after_new_scan : (old new : ScanData) (pair : PairWords) (n k : Netlist) → k ≡ (scanned_words old pair.old n).net → IsExtensionOf (scanned_words new pair.new k).net (scanned_pair old new pair n).net
after_new_scan old new pair n k e = rw e (extends_self _)

pub after_old : (parts : Parts) (pair : PairWords) (inputs : Words) (n : Netlist) → IsExtensionOf (outside_cells parts.old pair.old n).net (outside_all parts pair inputs n).net
after_old parts pair inputs n =
    let o = outside_cells parts.old pair.old n in
    let w = outside_cells parts.new pair.new o.net in
    extends_then o.net w.net _ (extends_outside_cells parts.new pair.new o.net) (extends_outside_cells parts.lines inputs w.net)

pub after_new : (parts : Parts) (pair : PairWords) (inputs : Words) (n k : Netlist) → k ≡ (outside_cells parts.old pair.old n).net → IsExtensionOf (outside_cells parts.new pair.new k).net (outside_all parts pair inputs n).net
after_new parts pair inputs n k e =
    let o = outside_cells parts.old pair.old n in
    let w = outside_cells parts.new pair.new o.net in
    rw e (extends_outside_cells parts.lines inputs w.net)

pub after_lines : (parts : Parts) (pair : PairWords) (inputs : Words) (n k j : Netlist) → k ≡ (outside_cells parts.old pair.old n).net → j ≡ (outside_cells parts.new pair.new k).net → IsExtensionOf (outside_cells parts.lines inputs j).net (outside_all parts pair inputs n).net
after_lines parts pair inputs n k j e f = rw (f, e) (extends_self _)

extends_outside_all : (parts : Parts) (pair : PairWords) (inputs : Words) (n : Netlist) → IsExtensionOf n (outside_all parts pair inputs n).net
extends_outside_all parts pair inputs n =
    extends_then n (outside_cells parts.old pair.old n).net _ (extends_outside_cells parts.old pair.old n) (after_old parts pair inputs n)

pub after_outside : (parts : Parts) (pair : PairWords) (inputs : Words) (n : Netlist) → IsExtensionOf (outside_all parts pair inputs n).net (premises_from parts pair inputs n).net
after_outside parts pair inputs n = extends_pair_literals pair parts.candidates (outside_all parts pair inputs n).net

pub after_before : (parts : Parts) (pair : PairWords) (inputs : Words) (n k : Netlist) → k ≡ (outside_all parts pair inputs n).net → IsExtensionOf (pair_literals pair parts.candidates k).net (premises_from parts pair inputs n).net
after_before parts pair inputs n k e = rw e (extends_self _)

pub after_environment : (parts : Parts) (inputs : Words) (pair loaded : PairWords) (n : Netlist) → loaded ≡ loaded_words parts.inputs inputs pair → IsExtensionOf (pair_literals loaded parts.environment n).net (loaded_row parts inputs pair n).net
after_environment parts inputs pair loaded n e = rw e (extends_self _)

pub after_scans : (parts : Parts) (pair : PairWords) (n : Netlist) → IsExtensionOf (scanned_pair parts.old_scan parts.new_scan pair n).net (consequences_from parts pair n).net
after_scans parts pair n =
    let behind = scanned_pair parts.old_scan parts.new_scan pair n in
    let a = pair_literals behind.pair parts.candidates behind.net in
    extends_then behind.net a.net _ (extends_pair_literals behind.pair parts.candidates behind.net) (extends_pair_literals behind.pair parts.relates a.net)

pub after_candidates : (parts : Parts) (pair q : PairWords) (n k : Netlist) → q ≡ (scanned_pair parts.old_scan parts.new_scan pair n).pair → k ≡ (scanned_pair parts.old_scan parts.new_scan pair n).net
    → IsExtensionOf (pair_literals q parts.candidates k).net (consequences_from parts pair n).net
after_candidates parts pair q n k e f =
    let behind = scanned_pair parts.old_scan parts.new_scan pair n in
    rw (e, f) (extends_pair_literals behind.pair parts.relates (pair_literals behind.pair parts.candidates behind.net).net)

pub after_relates : (parts : Parts) (pair q : PairWords) (n k j : Netlist) → q ≡ (scanned_pair parts.old_scan parts.new_scan pair n).pair → k ≡ (scanned_pair parts.old_scan parts.new_scan pair n).net → j ≡ (pair_literals q parts.candidates k).net
    → IsExtensionOf (pair_literals q parts.relates j).net (consequences_from parts pair n).net
after_relates parts pair q n k j e f g = rw (g, e, f) (extends_self _)

extends_consequences : (parts : Parts) (pair : PairWords) (n : Netlist) → IsExtensionOf n (consequences_from parts pair n).net
extends_consequences parts pair n =
    let behind = scanned_pair parts.old_scan parts.new_scan pair n in
    extends_then n behind.net _ (extends_scans parts.old_scan parts.new_scan pair n) (after_scans parts pair n)

pub after_premises : (parts : Parts) (pair : PairWords) (inputs : Words) (n : Netlist) → IsExtensionOf (premises_from parts pair inputs n).net (product_from parts pair inputs n).net
after_premises parts pair inputs n =
    let p = premises_from parts pair inputs n in
    let e = loaded_row parts inputs pair p.net in
    extends_then p.net e.net _ (extends_row parts inputs pair p.net) (extends_consequences parts e.pair e.net)

pub after_row : (parts : Parts) (pair q : PairWords) (inputs : Words) (n k : Netlist) → q ≡ pair → k ≡ (premises_from parts pair inputs n).net → IsExtensionOf (loaded_row parts inputs q k).net (product_from parts pair inputs n).net
after_row parts pair q inputs n k e f =
    let p = premises_from parts pair inputs n in
    let r = loaded_row parts inputs pair p.net in
    rw (e, f) (extends_consequences parts r.pair r.net)

pub after_consequences : (parts : Parts) (pair q b : PairWords) (inputs : Words) (n k j : Netlist) → q ≡ pair → k ≡ (premises_from parts pair inputs n).net → b ≡ (loaded_row parts inputs q k).pair → j ≡ (loaded_row parts inputs q k).net
    → IsExtensionOf (consequences_from parts b j).net (product_from parts pair inputs n).net
after_consequences parts pair q b inputs n k j e f g h = rw (g, h, e, f) (extends_self _)

-- what is made behind the row, from what the steps before it gave
pub product_behind : (parts : Parts) (pair q b : PairWords) (inputs : Words) (n k j : Netlist) → q ≡ pair → k ≡ (premises_from parts pair inputs n).net → b ≡ (loaded_row parts inputs q k).pair → j ≡ (loaded_row parts inputs q k).net
    → consequences_from parts b j ≡ consequences_from parts (loaded_row parts inputs pair (premises_from parts pair inputs n).net).pair (loaded_row parts inputs pair (premises_from parts pair inputs n).net).net
product_behind parts pair q b inputs n k j e f g h = rw (g, h, e, f) refl

-- the circuit from its start
pub product_whole : (parts : Parts) (limit : ℕ) (pair : PairWords) (inputs : Words) (n : Netlist) → pair.old ≡ (product_of parts limit).pair.old → pair.new ≡ (product_of parts limit).pair.new → inputs ≡ (product_of parts limit).inputs
    → n ≡ record { first = product_bits parts + 2; limit = limit; gates = [] } → IsExtensionOf (product_from parts pair inputs n).net (product_of parts limit).lits.net
product_whole parts limit pair inputs n e f g h = rw (e, f, g, h) (extends_self _)
