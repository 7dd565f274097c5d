-- Scans from the start whose literals are those of the variables up to their counts of gates.
use Rattle.std.specs.Prelude.{ℕ, ◌≤◌, List, [], ◌∷◌, length}
use Rattle.query_formulas.specs.Breaks.{ScanLiterals, Breaks}
use Rattle.query_formulas.specs.QueryClauses.{AreInside, AreBreaksInOrder}

-- the literals of a scan's numbers and of its ENV clauses are those of so many variables
pub record IsRowInside (variables : ℕ) (s : ScanLiterals) : Type 0 where
  pub outside : AreInside variables s.outside
  pub environment : AreInside variables s.environment

-- and so are all of the scan
pub record AreLitsInside (variables : ℕ) (s : ScanLiterals) : Type 0 where
  pub outside : AreInside variables s.outside
  pub environment : AreInside variables s.environment
  pub relates : AreInside variables s.relates

-- the counts of scans rise from one number to another
abbrev pub AreRising : ℕ → ℕ → List ScanLiterals → Type 0
AreRising low high [] = low ≤ high
AreRising low high (s ∷ ss) = (low ≤ s.begun) × (s.begun ≤ s.ended) × AreRising s.ended high ss

-- each scan's literals are those of the variables up to its counts, and these rise to that of all gates
pub record AreScansInOrder (b : Breaks) : Type 0 where
  pub order : AreBreaksInOrder b
  pub rising : AreRising 0 (length b.net.gates) b.scans
