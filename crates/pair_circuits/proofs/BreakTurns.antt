-- The circuit of scans from the start: what a scan makes is a front of what all make.
use Rattle.std.proofs.Common.{◌≡◌, ℕ, suc, ◌+◌, ◌-◌, ◌*◌, ◌<◌, refl, sym, ◌∙◌, ap, subst, List, [], ◌∷◌, ◌++◌, append_assoc, arith}
use Rattle.std.proofs.Math.Nat.{suc-mul}
use Rattle.gates.specs.Netlists.{Netlist, IsExtensionOf}
use Rattle.gates.proofs.Growth.{extends_self, extends_then}
use Rattle.node_circuits.specs.NodeWords.{Words}
use Rattle.query_formulas.specs.CellShapes.{bits_of}
use Rattle.query_formulas.specs.Parts.{Parts}
use Rattle.query_formulas.specs.PairWords.{PairWords, free_words}
use Rattle.query_formulas.specs.Literals.{outside_cells, pair_literals}
use Rattle.query_formulas.specs.PairScans.{scanned_pair}
use Rattle.query_formulas.specs.Products.{loaded_row}
use Rattle.query_formulas.specs.Breaks.{Breaks, ScanLiterals, scan_from, scans_from}
use Rattle.query_formulas.proofs.Growth.{extends_pair_literals, extends_scans, extends_row, extends_scans_from}

module _ (parts : Parts) (inputs : Words) (pair : PairWords) (n : Netlist) where
  pub after_ranges : IsExtensionOf (outside_cells parts.lines inputs n).net (scan_from parts inputs pair n).net
  after_ranges =
      let o = outside_cells parts.lines inputs n in
      let e = loaded_row parts inputs pair o.net in
      let b = scanned_pair parts.old_scan parts.new_scan e.pair e.net in
      extends_then o.net e.net _ (extends_row parts inputs pair o.net)
      (extends_then e.net b.net _ (extends_scans parts.old_scan parts.new_scan e.pair e.net) (extends_pair_literals b.pair parts.relates b.net))

  pub after_loaded : (k : Netlist) → k ≡ (outside_cells parts.lines inputs n).net → IsExtensionOf (loaded_row parts inputs pair k).net (scan_from parts inputs pair n).net
  after_loaded k f =
      let o = outside_cells parts.lines inputs n in
      let e = loaded_row parts inputs pair o.net in
      let b = scanned_pair parts.old_scan parts.new_scan e.pair e.net in
      rw f (extends_then e.net b.net _ (extends_scans parts.old_scan parts.new_scan e.pair e.net) (extends_pair_literals b.pair parts.relates b.net))

  pub after_both : (q : PairWords) (k j : Netlist) → k ≡ (outside_cells parts.lines inputs n).net → q ≡ (loaded_row parts inputs pair k).pair → j ≡ (loaded_row parts inputs pair k).net
      → IsExtensionOf (scanned_pair parts.old_scan parts.new_scan q j).net (scan_from parts inputs pair n).net
  after_both q k j f g h =
      let o = outside_cells parts.lines inputs n in
      let e = loaded_row parts inputs pair o.net in
      let b = scanned_pair parts.old_scan parts.new_scan e.pair e.net in
      rw (g, h, f) (extends_pair_literals b.pair parts.relates b.net)

  pub after_all : (q b : PairWords) (k j i : Netlist) → k ≡ (outside_cells parts.lines inputs n).net → q ≡ (loaded_row parts inputs pair k).pair → j ≡ (loaded_row parts inputs pair k).net
      → b ≡ (scanned_pair parts.old_scan parts.new_scan q j).pair → i ≡ (scanned_pair parts.old_scan parts.new_scan q j).net
      → IsExtensionOf (pair_literals b parts.relates i).net (scan_from parts inputs pair n).net
  after_all q b k j i f g h s t = rw (s, t, g, h, f) (extends_self _)

  pub scanned_same : (q : PairWords) (k j : Netlist) → k ≡ (outside_cells parts.lines inputs n).net → q ≡ (loaded_row parts inputs pair k).pair → j ≡ (loaded_row parts inputs pair k).net
      → scanned_pair parts.old_scan parts.new_scan q j ≡ scanned_pair parts.old_scan parts.new_scan (loaded_row parts inputs pair (outside_cells parts.lines inputs n).net).pair (loaded_row parts inputs pair (outside_cells parts.lines inputs n).net).net
  scanned_same q k j f g h = rw (g, h, f) refl

  pub relates_same : (q b : PairWords) (k j i : Netlist) → k ≡ (outside_cells parts.lines inputs n).net → q ≡ (loaded_row parts inputs pair k).pair → j ≡ (loaded_row parts inputs pair k).net
      → b ≡ (scanned_pair parts.old_scan parts.new_scan q j).pair → i ≡ (scanned_pair parts.old_scan parts.new_scan q j).net
      → (pair_literals b parts.relates i).net ≡ (scan_from parts inputs pair n).net
  relates_same q b k j i f g h s t = rw (s, t, g, h, f) refl

-- one scan more of those that are left
pub scans_less : (parts : Parts) (count i v : ℕ) (pair : PairWords) (n : Netlist) → i < count
    → scans_from parts (count - i) v pair n ≡ scans_from parts (suc (count - (i + 1))) v pair n
scans_less parts count i v pair n h = ap (λ (k : ℕ). scans_from parts k v pair n) (more count i h)
  where
    more : (m j : ℕ) → j < m → m - j ≡ suc (m - (j + 1))
    more m j h = omega arith

pub scans_turn : (parts : Parts) (count i v : ℕ) (words : Words) (pair : PairWords) (n all : Netlist) → i < count → words ≡ free_words v parts.lines
    → (scans_from parts (count - i) v pair n).net ≡ all → IsExtensionOf (scan_from parts words pair n).net all
scans_turn parts count i v words pair n all h w e =
    let s = scan_from parts (free_words v parts.lines) pair n in
    rw w (subst (λ (m : Netlist). IsExtensionOf s.net m) (sym (ap (λ (b : Breaks). b.net) (scans_less parts count i v pair n h)) ∙ e)
    (extends_scans_from parts (count - (i + 1)) (v + bits_of parts.lines) s.pair s.net))

pub room_step : (m i b : ℕ) → i < m → (m - i) * b ≡ (m - (i + 1)) * b + b
room_step m i b h = ap (λ (k : ℕ). k * b) (more m i h) ∙ suc-mul (m - (i + 1)) b
  where
    more : (a j : ℕ) → j < a → a - j ≡ suc (a - (j + 1))
    more a j h = omega arith

pub scans_step_net : (parts : Parts) (count i v w : ℕ) (words : Words) (pair q : PairWords) (n k all : Netlist) → i < count → words ≡ free_words v parts.lines
    → q ≡ (scan_from parts words pair n).pair → k ≡ (scan_from parts words pair n).net → w ≡ v + bits_of parts.lines
    → (scans_from parts (count - i) v pair n).net ≡ all → (scans_from parts (count - (i + 1)) w q k).net ≡ all
scans_step_net parts count i v w words pair q n k all h ew eq ek ev e =
    rw (eq, ek, ev, ew) (sym (ap (λ (b : Breaks). b.net) (scans_less parts count i v pair n h)) ∙ e)

pub scans_step : (parts : Parts) (count i v w : ℕ) (words : Words) (pair q : PairWords) (n k : Netlist) (done all : List ScanLiterals) (lits : ScanLiterals) → i < count → words ≡ free_words v parts.lines
    → lits ≡ (scan_from parts words pair n).lits → q ≡ (scan_from parts words pair n).pair → k ≡ (scan_from parts words pair n).net → w ≡ v + bits_of parts.lines
    → done ++ (scans_from parts (count - i) v pair n).scans ≡ all → (done ++ lits ∷ []) ++ (scans_from parts (count - (i + 1)) w q k).scans ≡ all
scans_step parts count i v w words pair q n k done all lits h ew el eq ek ev e =
    append_assoc done (lits ∷ []) (scans_from parts (count - (i + 1)) w q k).scans
    ∙ rw (el, eq, ek, ev, ew) (sym (ap (λ (b : Breaks). done ++ b.scans) (scans_less parts count i v pair n h)) ∙ e)
