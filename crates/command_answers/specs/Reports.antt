-- Reports, and those that several commands make.
use Rattle.std.specs.Prelude.{ℕ, List, ◌++◌, codes, decimal}
use Rattle.rules.specs.declared.rule.Rule.{Rule}
use Rattle.rules.specs.declared.rule.Refusal.{Refusal}
use Rattle.rules.specs.Rules.{name_of}
use Rattle.command_answers.specs.declared.source.Source.{Source}
use Rattle.command_answers.specs.declared.source.Source.TheVariants.{Old, New, Relation, Trace, Finding}
use Rattle.command_answers.specs.declared.status.Status.{Status}
use Rattle.command_answers.specs.declared.status.Status.TheVariants.{Usage, Refused}

-- what is put on the sink, and the status
pub record Report : Type 0 where
  pub text : List ℕ
  pub status : Status

abbrev pub source_word : Source → List ℕ
source_word Old = codes "OLD"
source_word New = codes "NEW"
source_word Relation = codes "REL"
source_word Trace = codes "TRACE"
source_word Finding = codes "FINDING"

abbrev pub refusal_line : Source → Refusal → List ℕ
refusal_line file r = codes "REFUSED " ++ source_word file ++ codes " " ++ name_of r.rule ++ codes " at " ++ decimal r.at ++ codes "\n"

abbrev pub refusal_report : Source → Refusal → Report
refusal_report file r = record { text = refusal_line file r; status = Refused }

-- a limit is one of the file as a whole
abbrev pub limit_report : Source → Rule → Report
limit_report file limit = refusal_report file (record { rule = limit; at = 0 })

abbrev pub usage_report : Report
usage_report = record { text = codes "USAGE verify OLD NEW REL FINDING, check, replay, explain or gen\n"; status = Usage }
