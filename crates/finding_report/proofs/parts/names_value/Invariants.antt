use Rattle.std.proofs.Common.{◌≡◌, ◌++◌, drop, map}
use Rattle.serde_json.specs.Data.{string}
use Rattle.serde_json.specs.View.{view}
use Rattle.queries.specs.Sets.{members}
use Rattle.scan_model.specs.Pairs.{candidates_view}
use Rattle.finding_report.specs.Reports.{names_among}
use Rattle.finding_report.proofs.parts.names_value.Given as goal

abbrev pub invariant-loop-number : goal.invariant-loop-number
invariant-loop-number l =
    map view l.names.items ++ map string (names_among (members l.set) l.number (candidates_view (drop l.number l.candidates))) ≡ map string (names_among (members l.set) 0 (candidates_view l.candidates))
