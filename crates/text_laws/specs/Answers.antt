-- Laws of what the commands put: what it says of the rows that may come, by the texts of OLD, NEW and REL alone.
use Rattle.std.specs.Prelude.{◌≡◌, ℕ, List, ◌++◌, Option}
use Rattle.outside.specs.Contents.{extended}
use Rattle.outside.specs.States.{Change}
use Rattle.scan_model.specs.InRange.{Row}
use Rattle.finding_lines.specs.declared.line.Conclusion.{Conclusion}
use Rattle.judgement.specs.declared.answers.Reach.{Reach}
use Rattle.queries.specs.Comparisons.{Comparison}
use Rattle.queries.specs.Settings.{setting_of}
use Rattle.command_answers.specs.declared.status.Status.{Status}
use Rattle.command_answers.specs.declared.status.Status.TheVariants.{Related}
use Rattle.comparison_files.specs.Texts.{Texts}
use Rattle.comparison_files.specs.Accepting.{AreStated}
use Rattle.finding_answers.specs.Verdicts.{valid_line, verdict_line, reach_line, verdict_status}
use Rattle.finding_commands.specs.Checks.{ShowsValid}
use Rattle.finding_commands.specs.Explanations.{ShowsExplained}
use Rattle.finding_report.specs.Noted.{kept_set}
use Rattle.verify_command.specs.Reports.{ShowsSaved}
use Rattle.text_laws.specs.Laws.{AreAllowed, AreRelated, HoldForEver}
use Rattle.text_laws.specs.Findings.{SaysOfRows, SaysOfReach, IfKeeps}

-- texts state a comparison, and of each that they state this says of the rows that may come what a conclusion says, and what is said of reach
pub record TextsSay (t : Texts) (conclusion : Conclusion) (reach : Reach) : Type 0 where
  pub compared : Comparison
  pub stated : AreStated t compared
  pub says : (c : Comparison) → AreStated t c → SaysOfRows c conclusion
  pub reaches : (c : Comparison) → AreStated t c → SaysOfReach c reach

-- what `check` shows where it puts VALID: the lines, and what its conclusion and its reach say
abbrev pub ValidSaysOfRows : Type 0
ValidSaysOfRows =
    (t : Texts) (old new : Option (List ℕ)) → ShowsValid t old new
    → (conclusion : Conclusion) × (reach : Reach) × (say : TextsSay t conclusion reach)
    × (new ≡ extended old (valid_line conclusion ++ reach_line say.compared.relation.depth reach))

-- what `explain` shows where it puts a report: the conclusion and the reach of the finding say so too, and each candidate that the report lists as kept holds at the start and after each
-- row of every list of allowed rows
abbrev pub ExplainedSaysOfRows : Type 0
ExplainedSaysOfRows = (t : Texts) (old new : Option (List ℕ)) (s : ShowsExplained t old new) → TextsSay t s.verdict s.reach

abbrev pub ExplainedHoldsForEver : Type 0
ExplainedHoldsForEver = (t : Texts) (old new : Option (List ℕ)) (s : ShowsExplained t old new) → IfKeeps s.verdict (HoldForEver s.compared (kept_set (setting_of s.compared) s.lines))

-- what `verify` shows where it puts a verdict: the status, the lines, and what its conclusion and its reach say
abbrev pub SavedSaysOfRows : Type 0
SavedSaysOfRows =
    (t : Texts) (k : Change) (name : List ℕ) (status : Status) (old new : Option (List ℕ)) → ShowsSaved t k name status old new
    → (conclusion : Conclusion) × (reach : Reach) × (status ≡ verdict_status conclusion) × (say : TextsSay t conclusion reach)
    × (new ≡ extended old (verdict_line conclusion ++ reach_line say.compared.relation.depth reach))

-- where the status is that of RELATED, the pair that the texts state is related after each row of every list of allowed rows
abbrev pub RelatedStatusIsForEver : Type 0
RelatedStatusIsForEver =
    (t : Texts) (k : Change) (name : List ℕ) (old new : Option (List ℕ)) → ShowsSaved t k name Related old new
    → (c : Comparison) → AreStated t c → (rows : List Row) → AreAllowed c rows → AreRelated c rows
