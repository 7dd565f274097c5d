-- What is reported on texts that are not compared.
use Rattle.std.specs.Prelude.{◌≡◌}
use Rattle.rules.specs.declared.rule.Refusal.{Refusal}
use Rattle.command_answers.specs.declared.source.Source.{Source}
use Rattle.rules.specs.declared.rule.Rule.{Rule}
use Rattle.command_answers.specs.Reports.{Report, refusal_report, limit_report}
use Rattle.command_files.specs.Texts.{Texts}
use Rattle.comparison_files.specs.Accepting.{IsRefused, IsTooLarge}

-- The report on three texts that are not compared: the rule or the limit that is the first broken.
pub data ReportsRefusal (t : Texts) (r : Report) : Type 0 where
  refused : (file : Source) (refusal : Refusal) → IsRefused t file refusal → r ≡ refusal_report file refusal → ReportsRefusal t r
  too_large : (file : Source) (limit : Rule) → IsTooLarge t file limit → r ≡ limit_report file limit → ReportsRefusal t r
