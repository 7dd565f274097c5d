-- Scans one behind the other: how their circuit grows, and its order.
use Rattle.std.proofs.Common.{◌≡◌, ℕ, zero, suc, ◌+◌, ◌*◌, ◌<◌, ◌≤◌, refl, sym, ap, subst, List, [], ◌∷◌, length, take, arith}
use Rattle.std.specs.Prelude.{All}
use Rattle.std.proofs.lemmas.List.Elements.{All-nil, All-cons}
use Rattle.gates.specs.Netlists.{Netlist, IsExtensionOf}
use Rattle.gates.specs.Order.{IsOrdered}
use Rattle.gates.proofs.Growth.{extends_self, extends_then}
use Rattle.query_formulas.specs.CellShapes.{bits_of}
use Rattle.query_formulas.specs.Parts.{Parts}
use Rattle.query_formulas.specs.PairWords.{PairWords, free_words}
use Rattle.query_formulas.specs.Breaks.{ScanLiterals, MadeScan, Breaks, scan_from, scans_from, start_words, breaks_bits, breaks_of}
use Rattle.query_formulas.specs.QueryClauses.{IsScanInside, AreBreaksInOrder, last_count, last_begun}
use Rattle.query_formulas.proofs.Growth.{begun_net, extends_begun, extends_rest, extends_scan_from, extends_scans_from}
use Rattle.query_formula_laws.proofs.Orders.{After, after_then, PairOf, free_words_of, initial_words_of}
use Rattle.query_formula_laws.proofs.ScanTruth.{after_scan}

module _ (parts : Parts) where
  abbrev pub scan_at : ℕ → PairWords → Netlist → MadeScan
  scan_at x words n = scan_from parts (free_words x parts.lines) words n

  abbrev pub begun_at : ℕ → PairWords → Netlist → Netlist
  begun_at x words n = begun_net parts (free_words x parts.lines) words n

  -- so many scans behind a scan
  abbrev pub behind : ℕ → ℕ → PairWords → Netlist → Breaks
  behind j x words n = scans_from parts j (x + bits_of parts.lines) (scan_at x words n).pair (scan_at x words n).net

  pub extends_last : (j x : ℕ) (words : PairWords) (n : Netlist) → IsExtensionOf (scan_at x words n).net (behind j x words n).net
  extends_last j x words n = extends_scans_from parts j (x + bits_of parts.lines) (scan_at x words n).pair (scan_at x words n).net

  -- the last count is that of all gates
  pub last_gates : (j x : ℕ) (words : PairWords) (n : Netlist) → last_count (scan_at x words n).lits (behind j x words n).scans ≡ length (behind j x words n).net.gates
  last_gates zero x words n = refl
  last_gates (suc j) x words n = let s = scan_at x words n in last_gates j (x + bits_of parts.lines) s.pair s.net

  -- ---- up to the ENV clauses of the last scan

  -- those of the last of so many scans behind a scan
  abbrev pub walked_net : ℕ → ℕ → PairWords → Netlist → Netlist
  walked_net zero x words n = begun_at x words n
  walked_net (suc j) x words n = walked_net j (x + bits_of parts.lines) (scan_at x words n).pair (scan_at x words n).net

  pub extends_walk : (j x : ℕ) (words : PairWords) (n : Netlist) → IsExtensionOf n (walked_net j x words n)
  extends_walk zero x words n = extends_begun parts (free_words x parts.lines) words n
  extends_walk (suc j) x words n =
      let s = scan_at x words n in
      extends_then n s.net _ (extends_scan_from parts (free_words x parts.lines) words n) (extends_walk j (x + bits_of parts.lines) s.pair s.net)

  -- its scan may go on to its end
  pub extends_walked : (j x : ℕ) (words : PairWords) (n : Netlist) → IsExtensionOf (walked_net j x words n) (behind j x words n).net
  extends_walked zero x words n = extends_rest parts (free_words x parts.lines) words n
  extends_walked (suc j) x words n = let s = scan_at x words n in extends_walked j (x + bits_of parts.lines) s.pair s.net

  pub walked_gates : (j x : ℕ) (words : PairWords) (n : Netlist) → last_begun (scan_at x words n).lits (behind j x words n).scans ≡ length (walked_net j x words n).gates
  walked_gates zero x words n = refl
  walked_gates (suc j) x words n = let s = scan_at x words n in walked_gates j (x + bits_of parts.lines) s.pair s.net

  -- the first scans of more
  pub take_scans : (j k x : ℕ) (words : PairWords) (n : Netlist) → j ≤ k → take j (scans_from parts k x words n).scans ≡ (scans_from parts j x words n).scans
  take_scans zero zero x words n h = refl
  take_scans zero (suc k) x words n h = refl
  take_scans (suc j) zero x words n h = absurd (omega arith)
  take_scans (suc j) (suc k) x words n h =
      let s = scan_at x words n in
      ap (λ (ss : List ScanLiterals). s.lits ∷ ss) (take_scans j k (x + bits_of parts.lines) s.pair s.net (omega arith))

  pub extends_taken : (j k x : ℕ) (words : PairWords) (n : Netlist) → j ≤ k → IsExtensionOf (scans_from parts j x words n).net (scans_from parts k x words n).net
  extends_taken zero k x words n h = extends_scans_from parts k x words n
  extends_taken (suc j) zero x words n h = absurd (omega arith)
  extends_taken (suc j) (suc k) x words n h = let s = scan_at x words n in extends_taken j k (x + bits_of parts.lines) s.pair s.net (omega arith)

  pub below_end : (x j s f len : ℕ) → x + suc j * s ≤ f → x + s ≤ f + len
  below_end x j s f len h = omega arith

  still_below : (x j s f g : ℕ) → x + suc j * s ≤ f → g ≡ f → x + s + j * s ≤ g
  still_below x j s f g h e = omega arith

  pub record ScansAfter (n : Netlist) (m : Breaks) : Type 0 where
    pub after : After n m.net
    pub inside : All (IsScanInside n.first) m.scans

  pub scans_after : (j x : ℕ) (words : PairWords) (n : Netlist) → 0 < x → x + j * bits_of parts.lines ≤ n.first → IsOrdered n → PairOf n words → ScansAfter n (scans_from parts j x words n)
  scans_after zero x words n some low o h = record { after = record { extends = extends_self n; ordered = o }; inside = All-nil (IsScanInside n.first) }
  scans_after (suc j) x words n some low o h =
      let m = scan_at x words n in
      let s = after_scan parts (free_words x parts.lines) words n o h (free_words_of n x parts.lines some (below_end x j (bits_of parts.lines) n.first (length n.gates) low)) in
      let same = s.net.extends.first in
      let rest = scans_after j (x + bits_of parts.lines) m.pair m.net (omega arith) (still_below x j (bits_of parts.lines) n.first m.net.first low same) s.net.ordered s.pair in
      let r = scans_from parts j (x + bits_of parts.lines) m.pair m.net in
      record {
        after = after_then n m.net r.net s.net.extends rest.after;
        inside = All-cons (IsScanInside n.first) m.lits r.scans s.inside (subst (λ (f : ℕ). All (IsScanInside f) r.scans) same rest.inside);
      }

  pub walked_after : (j x : ℕ) (words : PairWords) (n : Netlist) → 0 < x → x + suc j * bits_of parts.lines ≤ n.first → IsOrdered n → PairOf n words → After n (walked_net j x words n)
  walked_after zero x words n some low o h =
      (after_scan parts (free_words x parts.lines) words n o h (free_words_of n x parts.lines some (below_end x 0 (bits_of parts.lines) n.first (length n.gates) low))).begun
  walked_after (suc j) x words n some low o h =
      let m = scan_at x words n in
      let s = after_scan parts (free_words x parts.lines) words n o h (free_words_of n x parts.lines some (below_end x (suc j) (bits_of parts.lines) n.first (length n.gates) low)) in
      after_then n m.net _ s.net.extends (walked_after j (x + bits_of parts.lines) m.pair m.net (omega arith) (still_below x (suc j) (bits_of parts.lines) n.first m.net.first low s.net.extends.first) s.net.ordered s.pair)

  -- the circuit of scans from the start is in order
  pub breaks_in_order : (limit : ℕ) → AreBreaksInOrder (breaks_of parts limit)
  breaks_in_order limit =
      let n : Netlist = record { first = breaks_bits parts + 2; limit = limit; gates = [] } in
      let o : IsOrdered n = record { one = omega arith; ordered = refl } in
      let all = scans_after parts.depth 2 (start_words parts) n (omega arith) (omega arith) o (record { old = initial_words_of n parts.old o; new = initial_words_of n parts.new o }) in
      let made = breaks_of parts limit in
      record { ordered = all.after.ordered; scans = subst (λ (f : ℕ). All (IsScanInside f) made.scans) (sym all.after.extends.first) all.inside }
