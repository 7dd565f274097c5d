-- The nodes of the scans of what is compared.
use Rattle.std.specs.Prelude.{◌≡◌}
use Rattle.queries.specs.Comparisons.{Comparison}
use Rattle.node_core.specs.Scans.{scan_view}
use Rattle.query_formula_laws.specs.TypedComparisons.{IsScanOf}
use Rattle.comparison_files.specs.declared.accept.Scans.{Scans}
use Rattle.comparison_files.specs.Accepting.{nodes_of}

-- they are those of its programs, and mean what these do
pub record AreScansOf (c : Comparison) (scans : Scans) : Type 0 where
  pub old_nodes : scan_view scans.old ≡ nodes_of c.old
  pub new_nodes : scan_view scans.new ≡ nodes_of c.new
  pub old_meaning : IsScanOf c.old (scan_view scans.old)
  pub new_meaning : IsScanOf c.new (scan_view scans.new)
