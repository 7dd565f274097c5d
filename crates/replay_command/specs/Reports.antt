-- What the command `replay` answers.
use Rattle.std.specs.Prelude.{◌≡◌, ℕ, List, ◌++◌}
use Rattle.program_tree.specs.Tree.{ProgramData}
use Rattle.scan_model.specs.declared.relation.Ending.{Ending}
use Rattle.scan_model.specs.declared.relation.Ending.TheVariants.{Related, Unrelated as UnrelatedAt, NotAllowed as NotAllowedAt}
use Rattle.scan_model.specs.InRange.{Row}
use Rattle.scan_model.specs.Pairs.{RelationData, start}
use Rattle.scan_model.specs.Runs.{IsRun}
use Rattle.rules.specs.declared.rule.Refusal.{Refusal}
use Rattle.command_answers.specs.declared.status.Status.{Status}
use Rattle.command_answers.specs.declared.status.Status.TheVariants.{Replayed, Unrelated, NotAllowed}
use Rattle.command_answers.specs.declared.source.Source.{Source}
use Rattle.command_answers.specs.Reports.{Report, refusal_report}
use Rattle.command_answers.specs.Ends.{Asking}
use Rattle.command_files.specs.Reading.{asking_to_read}
use Rattle.command_files.specs.Texts.{Texts}
use Rattle.replay_command.specs.Lines.{scan_lines, ending_line}
use Rattle.replay_command.specs.Accepting.{IsAccepted, IsRefused}

abbrev pub ending_status : Ending → Status
ending_status (Related n) = Replayed
ending_status (UnrelatedAt k) = Unrelated
ending_status (NotAllowedAt k) = NotAllowed

-- a line for each row that was run, and one on how the run ended
abbrev pub run_report : ProgramData → ProgramData → RelationData → List Row → Ending → Report
run_report old new rel run ending = record { text = scan_lines old new rel 0 (start old new) run ++ ending_line ending; status = ending_status ending }

-- the report on four texts: the refusal of the first that is refused, or the run of the rows from the start
pub data Reports (t : Texts) (r : Report) : Type 0 where
  refused : (file : Source) (refusal : Refusal) → IsRefused t file refusal → r ≡ refusal_report file refusal → Reports t r
  replayed : (old new : ProgramData) (rel : RelationData) (rows run : List Row) (ending : Ending) → IsAccepted t old new rel rows
      → IsRun old new rel (start old new) rows run ending → r ≡ run_report old new rel run ending → Reports t r

-- what is asked for, by the names of the files
abbrev pub asking_to_replay : (old new rel trace : List ℕ) → Asking Texts
asking_to_replay old new rel trace = asking_to_read Reports old new rel trace (λ t. t.trace)
