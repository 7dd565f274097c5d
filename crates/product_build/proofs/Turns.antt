-- Scans one after the other: the first of them, and those behind it.
use Rattle.std.proofs.Common.{◌≡◌, ℕ, ◌+◌, ◌-◌, ◌<◌, ◌≤◌, sym, ◌∙◌, ap, subst, List, ◌∷◌, ◌++◌, length, map, take, drop, get_or, append_assoc}
use Rattle.std.specs.Prelude.{All, min}
use Rattle.std.specs.List.{take-map}
use Rattle.std.proofs.lemmas.List.{at_drop_more, take_min}
use Rattle.std.proofs.lemmas.List.Elements.{All-head, All-tail, All-take}
use Rattle.clause_core.specs.declared.literal.Lit.{Lit}
use Rattle.clause_core.specs.Formula.{Formula}
use Rattle.gates.specs.Clauses.{with_clauses}
use Rattle.pair_circuits.specs.declared.breaks.ScanLits.{ScanLits}
use Rattle.query_formulas.specs.Breaks.{ScanLiterals, Breaks}
use Rattle.pair_circuits.specs.Views.{scan_lits_view}
use Rattle.query_formulas.specs.QueryClauses.{units, row_units, break_units, walk_units, last_count, last_begun, IsScanInside}
use Rattle.product_build.specs.Counts.{IsRowInside, AreLitsInside, AreRising, AreScansInOrder}
use Rattle.product_build.proofs.Inside.{rising_taken, last_within, first_inside, others_inside, begun_before, rows_inside}

-- ---- one turn of the loop over scans

pub next_view : (xs : List ScanLits) (i : ℕ) (x : ScanLits) → i < length xs → x ≡ get_or xs i x → map scan_lits_view (drop i xs) ≡ scan_lits_view x ∷ map scan_lits_view (drop (i + 1) xs)
next_view xs i x h e =
    at_drop_more (λ (ys : List ScanLits). map scan_lits_view ys) xs i x h ∙ ap (λ (y : ScanLits). scan_lits_view y ∷ map scan_lits_view (drop (i + 1) xs)) (sym e)

module _ (IsInside : ℕ → ScanLiterals → Type 0) (v : ℕ) (t : ScanLiterals) (ts all : List ScanLiterals) (is : all ≡ t ∷ ts) (h : All (IsInside v) all) where
  pub inside_here : IsInside v t
  inside_here = All-head (IsInside v) t ts (subst (λ (xs : List ScanLiterals). All (IsInside v) xs) is h)

  inside_behind : All (IsInside v) ts
  inside_behind = All-tail (IsInside v) t ts (subst (λ (xs : List ScanLiterals). All (IsInside v) xs) is h)

module _ (IsInside : ℕ → ScanLiterals → Type 0) (f g : Formula) (more : List (List Lit)) (made : g ≡ with_clauses f more) (t : ScanLiterals) (ts all : List ScanLiterals) (is : all ≡ t ∷ ts) where
  pub inside_next : All (IsInside f.variables) all → IsInside g.variables t
  inside_next h = rw made (inside_here IsInside f.variables t ts all is h)

  pub inside_rest : All (IsInside f.variables) all → All (IsInside g.variables) ts
  inside_rest h = rw made (inside_behind IsInside f.variables t ts all is h)

pub break_turn : (f g whole : Formula) (s t : ScanLiterals) (ts all : List ScanLiterals) → g ≡ with_clauses f (row_units s ++ units s.relates) → all ≡ t ∷ ts → with_clauses f (break_units s all) ≡ whole → with_clauses g (break_units t ts) ≡ whole
break_turn f g whole s t ts all made is e =
    rw made (ap (λ (cs : List (List Lit)). let x : Formula = record { variables = f.variables; clauses = cs } in x) (append_assoc f.clauses (row_units s ++ units s.relates) (break_units t ts))
    ∙ ap (λ (xs : List ScanLiterals). with_clauses f (break_units s xs)) (sym is) ∙ e)

pub walk_turn : (f g whole : Formula) (s : ScanLiterals) (ss all : List ScanLiterals) → g ≡ with_clauses f (row_units s) → all ≡ s ∷ ss → with_clauses f (walk_units all) ≡ whole → with_clauses g (walk_units ss) ≡ whole
walk_turn f g whole s ss all made is e =
    rw made (ap (λ (cs : List (List Lit)). let x : Formula = record { variables = f.variables; clauses = cs } in x) (append_assoc f.clauses (row_units s) (walk_units ss))
    ∙ ap (λ (xs : List ScanLiterals). with_clauses f (walk_units xs)) (sym is) ∙ e)

-- ---- some of the scans of a circuit

pub taken_view : (xs : List ScanLits) (k count : ℕ) (x : ScanLits) (rest : List ScanLits) → count ≡ min k (length xs) → take count xs ≡ x ∷ rest → take k (map scan_lits_view xs) ≡ scan_lits_view x ∷ map scan_lits_view rest
taken_view xs k count x rest e h =
    take-map scan_lits_view k xs ∙ ap (λ (ys : List ScanLits). map scan_lits_view ys) (sym (take_min k xs) ∙ ap (λ (j : ℕ). take j xs) (sym e) ∙ h)

module _ (k : ℕ) (b : Breaks) (s : ScanLiterals) (ss : List ScanLiterals) (is : take k b.scans ≡ s ∷ ss) (h : AreScansInOrder b) where
  rising_here : AreRising 0 (length b.net.gates) (s ∷ ss)
  rising_here = subst (λ (xs : List ScanLiterals). AreRising 0 (length b.net.gates) xs) is (rising_taken k 0 (length b.net.gates) b.scans h.rising)

  all_here : All (IsScanInside b.net.first) (s ∷ ss)
  all_here = subst (λ (xs : List ScanLiterals). All (IsScanInside b.net.first) xs) is (All-take (IsScanInside b.net.first) k b.scans h.order.scans)

  pub begun_within : last_begun s ss ≤ length b.net.gates
  begun_within = begun_before 0 (length b.net.gates) s ss rising_here

  pub rows_here : All (IsRowInside (b.net.first - 1 + last_begun s ss)) (s ∷ ss)
  rows_here = rows_inside b.net.first 0 (length b.net.gates) s ss rising_here all_here

  pub ended_within : last_count s ss ≤ length b.net.gates
  ended_within = last_within 0 (length b.net.gates) s ss rising_here

  pub here_inside : AreLitsInside (b.net.first - 1 + last_count s ss) s
  here_inside = first_inside b.net.first 0 (length b.net.gates) s ss rising_here (All-head (IsScanInside b.net.first) s ss all_here)

  pub rest_inside : All (AreLitsInside (b.net.first - 1 + last_count s ss)) ss
  rest_inside = others_inside b.net.first 0 (length b.net.gates) s ss rising_here (All-tail (IsScanInside b.net.first) s ss all_here)
