-- What is said of a finding, as a line.
use Rattle.std.specs.Prelude.{ℕ, List, ◌++◌, codes, decimal}
use Rattle.judgement.specs.declared.answers.Reason.{Reason}
use Rattle.judgement.specs.declared.answers.Reason.TheVariants.{B1, B2, B3, B4, B5, B6, B7, B8, B9, B10, B11, B12, B13, B14}
use Rattle.judgement.specs.declared.answers.Judged.{Judged}
use Rattle.judgement.specs.declared.answers.Judged.TheVariants as judgements
use Rattle.command_answers.specs.declared.status.Status.{Status}
use Rattle.command_answers.specs.declared.status.Status.TheVariants.{Valid, Invalid, WriteFault}
use Rattle.command_answers.specs.declared.source.Source.TheVariants as sources
use Rattle.rules.specs.declared.rule.Rule.TheVariants.{FindingTooLong}
use Rattle.command_answers.specs.Reports.{Report, limit_report}
use Rattle.finding_answers.specs.Verdicts.{valid_line, reach_line}

abbrev pub reason_name : Reason → List ℕ
reason_name B1 = codes "B1"
reason_name B2 = codes "B2"
reason_name B3 = codes "B3"
reason_name B4 = codes "B4"
reason_name B5 = codes "B5"
reason_name B6 = codes "B6"
reason_name B7 = codes "B7"
reason_name B8 = codes "B8"
reason_name B9 = codes "B9"
reason_name B10 = codes "B10"
reason_name B11 = codes "B11"
reason_name B12 = codes "B12"
reason_name B13 = codes "B13"
reason_name B14 = codes "B14"

abbrev pub invalid_line : ℕ → Reason → List ℕ
invalid_line line reason = codes "INVALID line " ++ decimal line ++ codes " " ++ reason_name reason ++ codes "\n"

-- what is said of a finding on a relation of such a DEPTH: of reach too, as a line of its own
abbrev pub judged_line : ℕ → Judged → List ℕ
judged_line depth (judgements.Valid verdict reach) = valid_line verdict ++ reach_line depth reach
judged_line depth (judgements.Bad line reason) = invalid_line line reason

abbrev pub judged_status : Judged → Status
judged_status (judgements.Valid verdict reach) = Valid
judged_status (judgements.Bad line reason) = Invalid

abbrev pub judged_report : ℕ → Judged → Report
judged_report depth judged = record { text = judged_line depth judged; status = judged_status judged }

-- the report where a line fails a test
abbrev pub invalid_report : ℕ → Reason → Report
invalid_report line reason = record { text = invalid_line line reason; status = Invalid }

-- how many bytes a finding may have
abbrev pub most_bytes : ℕ
most_bytes = 1073741824

-- the report where it has more
abbrev pub too_long_report : Report
too_long_report = limit_report sources.Finding FindingTooLong

-- the report where a write of it has failed
abbrev pub write_fault_report : Report
write_fault_report = record { text = codes "WRITE FAULT\n"; status = WriteFault }
