use Rattle.std.proofs.Common.{◌≡◌, drop, map}
use Rattle.serde_json.specs.Data.{no_members}
use Rattle.serde_json.specs.View.{members_view}
use Rattle.program_tree.specs.View.{cells_view}
use Rattle.finding_report.specs.Names.{input_name}
use Rattle.finding_report.specs.Reports.{with_numbers}
use Rattle.finding_report.proofs.numbers.row_value.Given as goal

abbrev pub invariant-loop-place : goal.invariant-loop-place
invariant-loop-place l =
    with_numbers (map (input_name (cells_view l.old) (cells_view l.new)) (drop l.place l.inputs)) (drop l.place l.row) (members_view l.members.entries)
    ≡ with_numbers (map (input_name (cells_view l.old) (cells_view l.new)) l.inputs) l.row no_members
