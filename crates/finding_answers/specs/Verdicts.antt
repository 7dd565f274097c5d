-- What is said of a verdict: a line, which has the words of the END line behind its first, and a status of its own.
use Rattle.std.specs.Prelude.{ℕ, List, [], ◌++◌, codes, decimal, drop}
use Rattle.finding_lines.specs.declared.line.Conclusion.{Conclusion}
use Rattle.finding_lines.specs.declared.line.Conclusion.TheVariants as conclusions
use Rattle.finding_lines.specs.Spelling.{concluded}
use Rattle.judgement.specs.declared.answers.Reach.{Reach}
use Rattle.judgement.specs.declared.answers.Reach.TheVariants.{Untold, Unwalked, Greatest, AtLeast}
use Rattle.judgement.specs.declared.answers.Concluded.{Concluded}
use Rattle.command_answers.specs.declared.status.Status.{Status}
use Rattle.command_answers.specs.declared.status.Status.TheVariants.{Vacuous, Related, Different, Open, Spent}
use Rattle.command_answers.specs.Reports.{Report}

abbrev pub verdict_line : Conclusion → List ℕ
verdict_line verdict = drop 1 (concluded verdict) ++ codes "\n"

abbrev pub verdict_status : Conclusion → Status
verdict_status conclusions.Vacuous = Vacuous
verdict_status (conclusions.Related kept candidates) = Related
verdict_status (conclusions.Different scans) = Different
verdict_status (conclusions.Open kept candidates depth) = Open
verdict_status (conclusions.Spent asked count) = Spent

-- What a finding says of reach, as a line of its own: how many scans a run of allowed rows has at most, of DEPTH, or that the query for one
-- more is spent. Of version 1, and where no first row is known, nothing is said.
abbrev pub reach_line : ℕ → Reach → List ℕ
reach_line depth Untold = []
reach_line depth Unwalked = []
reach_line depth (Greatest rows) = codes "REACH " ++ decimal rows ++ codes " of " ++ decimal depth ++ codes "\n"
reach_line depth (AtLeast rows) = codes "REACH " ++ decimal rows ++ codes " spent\n"

-- the report on a pair whose search goes so deep
abbrev pub verdict_report : ℕ → Concluded → Report
verdict_report depth c = record { text = verdict_line c.verdict ++ reach_line depth c.reach; status = verdict_status c.verdict }

-- the line on a finding that is valid with this verdict
abbrev pub valid_line : Conclusion → List ℕ
valid_line verdict = codes "VALID " ++ verdict_line verdict

-- the statuses of verdicts
abbrev pub IsOfVerdict : Status → Type 0
IsOfVerdict Vacuous = Unit {0}
IsOfVerdict Related = Unit {0}
IsOfVerdict Different = Unit {0}
IsOfVerdict Open = Unit {0}
IsOfVerdict Spent = Unit {0}
IsOfVerdict _ = ⊥
