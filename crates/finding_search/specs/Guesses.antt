-- The test of a pair and a row that are proposed.
use Rattle.std.specs.Prelude.{Bool, not, ◌&&◌}
use Rattle.scan_model.specs.InRange.{Row}
use Rattle.scan_model.specs.Pairs.{Pair}
use Rattle.scan_model.specs.Verdicts.{CandidateSet}
use Rattle.queries.specs.Settings.{Setting, meets}

-- the pair is in range and meets the set, the row is allowed, and after it a candidate of the set fails
abbrev pub leads_out : Setting → CandidateSet → Pair → Row → Bool
leads_out s set pair row = s.in_range pair && (s.allowed row pair && (meets s set pair && not (meets s set (s.after row pair))))
