-- A replay row by row is a report on the texts.
use Rattle.std.proofs.Common.{◌≡◌, List, ap, ◌∙◌}
use Rattle.program_tree.specs.Tree.{ProgramData}
use Rattle.scan_model.specs.InRange.{Row}
use Rattle.scan_model.specs.Pairs.{RelationData, start}
use Rattle.replay_command.specs.Outcomes.{outcome_of}
use Rattle.replay_command.specs.Played.{outcome_report}
use Rattle.command_files.specs.Texts.{Texts}
use Rattle.replay_command.specs.Accepting.{IsAccepted}
use Rattle.command_answers.specs.Reports.{Report}
use Rattle.replay_command.specs.Reports.{Reports, replayed}
use Rattle.replay_command.proofs.RunLemmas.{has_run, outcome_of-run}

pub reports_outcome : (t : Texts) (old new : ProgramData) (rel : RelationData) (rows : List Row) (r : Report) → IsAccepted t old new rel rows
    → r ≡ outcome_report (outcome_of old new rel rows) → Reports t r
reports_outcome t old new rel rows r accepted e =
    let h = has_run old new rel (start old new) rows in
    replayed old new rel rows h.run h.ending accepted h.is (e ∙ ap outcome_report (outcome_of-run old new rel rows h.run h.ending h.is))
