use Rattle.std.proofs.Common.{◌≡◌, drop}
use Rattle.serde_json.specs.Data.{no_members}
use Rattle.serde_json.specs.View.{members_view}
use Rattle.program_tree.specs.View.{cells_view}
use Rattle.scan_model.specs.Candidates.{paths_of}
use Rattle.finding_report.specs.Reports.{with_numbers}
use Rattle.finding_report.proofs.numbers.cells_value.Given as goal

abbrev pub invariant-loop-place : goal.invariant-loop-place
invariant-loop-place l =
    with_numbers (paths_of (drop l.place (cells_view l.cells))) (drop l.place l.values) (members_view l.members.entries) ≡ with_numbers (paths_of (cells_view l.cells)) l.values no_members
