-- What was found, in numbers of a finding.
use Rattle.std.specs.Prelude.{List, All}
use Rattle.finding_lines.specs.Numbers.{AreNumbers}
use Rattle.scan_model.specs.InRange.{Row}
use Rattle.queries.specs.declared.decoded.Decoded.{Decoded}

abbrev pub AreNumberRows : List Row → Type 0
AreNumberRows rows = All AreNumbers rows

-- both states and the rows
pub record HasNumbers (found : Decoded) : Type 0 where
  pub old : AreNumbers found.old.items
  pub new : AreNumbers found.new.items
  pub rows : AreNumberRows found.rows.items
