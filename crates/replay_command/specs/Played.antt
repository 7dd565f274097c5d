-- The report on a replay row by row.
use Rattle.std.specs.Prelude.{◌++◌}
use Rattle.replay_command.specs.Lines.{ending_line}
use Rattle.replay_command.specs.Outcomes.{Outcome}
use Rattle.command_answers.specs.Reports.{Report}
use Rattle.replay_command.specs.Reports.{ending_status}

abbrev pub outcome_report : Outcome → Report
outcome_report o = record { text = o.lines ++ ending_line o.ending; status = ending_status o.ending }
