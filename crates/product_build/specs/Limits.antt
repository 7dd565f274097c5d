-- How many gates, INPUT lines and ENV clauses there may be.
use Rattle.std.specs.Prelude.{ℕ, ◌<◌, ◌≤◌, length}
use Rattle.queries.specs.Comparisons.{Comparison}
use Rattle.node_core.specs.Scans.{ScanData}
use Rattle.query_formulas.specs.Parts.{parts_of}
use Rattle.query_formulas.specs.Products.{product_of}
use Rattle.query_formulas.specs.Breaks.{breaks_of}

-- how many gates a circuit may have
abbrev pub most_gates : ℕ
most_gates = 16777216

-- how many there are in the circuit of one scan from any pair, and in that of scans from the start
abbrev pub product_gates : Comparison → ScanData → ScanData → ℕ
product_gates c old new = length (product_of (parts_of c old new) most_gates).lits.net.gates

abbrev pub breaks_gates : Comparison → ScanData → ScanData → ℕ
breaks_gates c old new = length (breaks_of (parts_of c old new) most_gates).net.gates

pub record HasFewGates (c : Comparison) (old new : ScanData) : Type 0 where
  pub product : product_gates c old new ≤ most_gates
  pub breaks : breaks_gates c old new ≤ most_gates

-- one of the circuits has too many (M7)
pub data HasManyGates (c : Comparison) (old new : ScanData) : Type 0 where
  in_product : most_gates < product_gates c old new → HasManyGates c old new
  in_breaks : most_gates < breaks_gates c old new → HasManyGates c old new

-- a relation file is too short for more INPUT lines and ENV clauses than these
pub record HasFewLines (c : Comparison) : Type 0 where
  pub inputs : length c.relation.inputs ≤ 262144
  pub environment : length c.relation.environment ≤ 524288
