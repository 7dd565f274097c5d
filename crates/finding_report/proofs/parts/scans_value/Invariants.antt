use Rattle.std.proofs.Common.{◌≡◌, take, map}
use Rattle.serde_json.specs.View.{view}
use Rattle.finding_report.specs.Reports.{inputs_of}
use Rattle.finding_report.specs.Views.{comparison_in}
use Rattle.finding_report.proofs.parts.scans_value.Given as goal

abbrev pub invariant-loop-row : goal.invariant-loop-row
invariant-loop-row l = map view l.scans.items ≡ map (inputs_of (comparison_in l.compared)) (take l.row-index l.rows)
