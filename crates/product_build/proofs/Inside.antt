-- Literals of so many variables.
use Rattle.std.proofs.Common.{◌≡◌, ℕ, zero, suc, ◌+◌, ◌-◌, ◌≤◌, Bool, true, false, ◌&&◌, List, [], ◌∷◌, ◌++◌, take, arith}
use Rattle.std.specs.Prelude.{All, nat_lt, nat_le, if◌then◌else◌}
use Rattle.std.specs.List.{list_all}
use Rattle.std.proofs.lemmas.Bool.{and_parts, and_from}
use Rattle.std.proofs.lemmas.Bool.Decides.{nat_tests}
use Rattle.std.proofs.lemmas.List.Elements.{All-nil, All-cons, All-head, All-tail}
use Rattle.clause_core.specs.declared.literal.Lit.{Lit}
use Rattle.clause_core.specs.Clauses.{is_inside}
use Rattle.scan_model.specs.Verdicts.{CandidateSet}
use Rattle.query_formulas.specs.Breaks.{ScanLiterals}
use Rattle.query_formulas.specs.QueryClauses.{AreInside, members_from, members_of, last_count, last_begun, IsScanInside}
use Rattle.product_build.specs.Counts.{IsRowInside, AreLitsInside, AreRising}

-- ---- lists of literals

inside_if : (b : Bool) (v : ℕ) (l : Lit) (ms : List Lit) → is_inside v l ≡ true → AreInside v ms → AreInside v ((if b then l ∷ [] else []) ++ ms)
inside_if true v l ms h k = and_from (is_inside v l) (list_all (is_inside v) ms) h k
inside_if false v l ms h k = k

inside_from : (v n : ℕ) (set : CandidateSet) (ls : List Lit) → AreInside v ls → AreInside v (members_from n set ls)
inside_from v n set [] h = h
inside_from v n set (l ∷ ls) h =
    let p = and_parts (is_inside v l) (list_all (is_inside v) ls) h in
    inside_if (set n) v l (members_from (n + 1) set ls) p.0 (inside_from v (n + 1) set ls p.1)

-- those of a set are of the same variables as all
pub inside_members : (v : ℕ) (set : CandidateSet) (ls : List Lit) → AreInside v ls → AreInside v (members_of set ls)
inside_members v set ls h = inside_from v 0 set ls h

one_more : (x v w : ℕ) → v ≤ w → (nat_lt 0 x && nat_le x v) ≡ true → (nat_lt 0 x && nat_le x w) ≡ true
one_more x v w le h = grind (arith, nat_tests)

inside_more : (v w : ℕ) (ls : List Lit) → v ≤ w → AreInside v ls → AreInside w ls
inside_more v w [] le h = h
inside_more v w (l ∷ ls) le h =
    let p = and_parts (is_inside v l) (list_all (is_inside v) ls) h in
    and_from (is_inside w l) (list_all (is_inside w) ls) (one_more l.variable v w le p.0) (inside_more v w ls le p.1)

-- literals, and how many variables there are, by what they are
pub inside_at : (v w : ℕ) (ls ms : List Lit) → w ≡ v → ls ≡ ms → AreInside v ms → AreInside w ls
inside_at v w ls ms e f h = rw (e, f) h

-- ---- scans

-- up to a scan's end
pub lits_of : (first w : ℕ) (s : ScanLiterals) → IsScanInside first s → s.begun ≤ s.ended → first - 1 + s.ended ≤ w → AreLitsInside w s
lits_of first w s h le below = record {
  outside = inside_more (first - 1 + s.begun) w s.outside (omega arith) h.outside;
  environment = inside_more (first - 1 + s.begun) w s.environment (omega arith) h.environment;
  relates = inside_more (first - 1 + s.ended) w s.relates below h.relates;
}

pub rising_whole : (low high : ℕ) (ss : List ScanLiterals) → AreRising low high ss → low ≤ high
rising_whole low high [] h = h
rising_whole low high (s ∷ ss) h = let rest = rising_whole s.ended high ss h.2 in omega (arith, h.0, h.1, rest)

pub rising_taken : (k low high : ℕ) (ss : List ScanLiterals) → AreRising low high ss → AreRising low high (take k ss)
rising_taken zero low high ss h = rising_whole low high ss h
rising_taken (suc k) low high [] h = h
rising_taken (suc k) low high (s ∷ ss) h = (h.0, h.1, rising_taken k s.ended high ss h.2)

-- the last of scans ends behind the others
ended_last : (low high : ℕ) (s : ScanLiterals) (ss : List ScanLiterals) → AreRising low high (s ∷ ss) → s.ended ≤ last_count s ss
ended_last low high s [] h = omega arith
ended_last low high s (t ∷ ts) h = let rest = ended_last s.ended high t ts h.2 in omega (arith, h.2.0, h.2.1, rest)

pub last_within : (low high : ℕ) (s : ScanLiterals) (ss : List ScanLiterals) → AreRising low high (s ∷ ss) → last_count s ss ≤ high
last_within low high s [] h = h.2
last_within low high s (t ∷ ts) h = last_within s.ended high t ts h.2

pub first_inside : (first low high : ℕ) (s : ScanLiterals) (ss : List ScanLiterals) → AreRising low high (s ∷ ss) → IsScanInside first s → AreLitsInside (first - 1 + last_count s ss) s
first_inside first low high s ss r h =
    let last = ended_last low high s ss r in
    lits_of first (first - 1 + last_count s ss) s h r.1 (omega (arith, last))

pub others_inside : (first low high : ℕ) (s : ScanLiterals) (ss : List ScanLiterals) → AreRising low high (s ∷ ss) → All (IsScanInside first) ss → All (AreLitsInside (first - 1 + last_count s ss)) ss
others_inside first low high s [] r h = All-nil (AreLitsInside (first - 1 + last_count s []))
others_inside first low high s (t ∷ ts) r h =
    All-cons (AreLitsInside (first - 1 + last_count t ts)) t ts
    (first_inside first s.ended high t ts r.2 (All-head (IsScanInside first) t ts h))
    (others_inside first s.ended high t ts r.2 (All-tail (IsScanInside first) t ts h))

-- ---- rows of scans

-- the last of scans begins behind the others
begun_last : (low high : ℕ) (s : ScanLiterals) (ss : List ScanLiterals) → AreRising low high (s ∷ ss) → s.begun ≤ last_begun s ss
begun_last low high s [] h = omega arith
begun_last low high s (t ∷ ts) h = let rest = begun_last s.ended high t ts h.2 in omega (arith, h.1, h.2.0, rest)

pub begun_before : (low high : ℕ) (s : ScanLiterals) (ss : List ScanLiterals) → AreRising low high (s ∷ ss) → last_begun s ss ≤ high
begun_before low high s [] h = omega (arith, h.1, h.2)
begun_before low high s (t ∷ ts) h = begun_before s.ended high t ts h.2

row_of : (first w : ℕ) (s : ScanLiterals) → IsScanInside first s → first - 1 + s.begun ≤ w → IsRowInside w s
row_of first w s h below = record {
  outside = inside_more (first - 1 + s.begun) w s.outside below h.outside;
  environment = inside_more (first - 1 + s.begun) w s.environment below h.environment;
}

pub rows_inside : (first low high : ℕ) (s : ScanLiterals) (ss : List ScanLiterals) → AreRising low high (s ∷ ss) → All (IsScanInside first) (s ∷ ss) → All (IsRowInside (first - 1 + last_begun s ss)) (s ∷ ss)
rows_inside first low high s [] r h =
    All-cons (IsRowInside (first - 1 + s.begun)) s [] (row_of first (first - 1 + s.begun) s (All-head (IsScanInside first) s [] h) (omega arith)) (All-nil (IsRowInside (first - 1 + s.begun)))
rows_inside first low high s (t ∷ ts) r h =
    let last = begun_last low high s (t ∷ ts) r in
    All-cons (IsRowInside (first - 1 + last_begun t ts)) s (t ∷ ts)
    (row_of first (first - 1 + last_begun t ts) s (All-head (IsScanInside first) s (t ∷ ts) h) (omega (arith, last)))
    (rows_inside first s.ended high t ts r.2 (All-tail (IsScanInside first) s (t ∷ ts) h))
