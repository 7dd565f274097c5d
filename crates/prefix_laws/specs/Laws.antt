-- Laws of what is left of a finding where its writing ends early.
use Rattle.std.specs.Prelude.{◌≡◌, ℕ, ◌<◌, ◌≤◌, List, ◌++◌, length, Ok, Err, ◌⊎◌}
use Rattle.std.specs.List.{All}
use Rattle.clause_core.specs.Formula.{Formula}
use Rattle.finding_lines.specs.declared.line.Conclusion.{Conclusion}
use Rattle.finding_lines.specs.declared.line.Line.{Line}
use Rattle.finding_lines.specs.declared.line.Line.TheVariants as lines
use Rattle.finding_lines.specs.Form.{IsLine}
use Rattle.finding_lines.specs.Spelling.{written}
use Rattle.finding_file.specs.Writing.{all_written}
use Rattle.queries.specs.Settings.{Setting}
use Rattle.queries.specs.Questions.{QueryData}
use Rattle.judgement.specs.Findings.{IsJudged}
use Rattle.judgement.specs.declared.answers.Reach.{Reach}
use Rattle.judgement.specs.declared.answers.Judged.TheVariants.{Valid, Bad}
use Rattle.judgement.specs.declared.answers.Reason.TheVariants.{B13}
use Rattle.judgement.specs.declared.answers.JudgeErr.TheVariants.{M8}
use Rattle.finding_search.specs.Passing.{IsPartOfFinding}

-- a finding, or what lacks the end of a line where it ends
abbrev pub IsValidOrCutOff : Setting → (QueryData → Formula) → ℕ → List ℕ → Type 0
IsValidOrCutOff s formula limit file =
    ((verdict : Conclusion) × (reach : Reach) × IsJudged s formula limit file (Ok (Valid verdict reach))) ⊎ ((line : ℕ) × IsJudged s formula limit file (Ok (Bad line B13)))

-- lines that all pass, or such lines and a prefix of one more that would pass, are a finding, or lack the end of a line where they end
abbrev pub PartIsValidOrCutOff : Type 0
PartIsValidOrCutOff =
    (s : Setting) (formula : QueryData → Formula) (limit : ℕ) (file : List ℕ) → IsPartOfFinding s formula file → length file ≤ limit → IsValidOrCutOff s formula limit file

-- and where they have more bytes than may be judged, they are too long
abbrev pub LongPartIsTooLong : Type 0
LongPartIsTooLong =
    (s : Setting) (formula : QueryData → Formula) (limit : ℕ) (file : List ℕ) → IsPartOfFinding s formula file → limit < length file → IsJudged s formula limit file (Err M8)

-- where a whole END line stands in them behind whole lines, they are a finding of its verdict
abbrev pub PartWithEndIsValid : Type 0
PartWithEndIsValid =
    (s : Setting) (formula : QueryData → Formula) (limit : ℕ) (file : List ℕ) → IsPartOfFinding s formula file → length file ≤ limit
    → (front : List Line) (verdict : Conclusion) (behind : List ℕ) → All IsLine front → IsLine (lines.End verdict)
    → file ≡ all_written front ++ (written (lines.End verdict) ++ behind) → (reach : Reach) × IsJudged s formula limit file (Ok (Valid verdict reach))

-- a valid finding ends with the END line of its verdict
abbrev pub ValidHasEnd : Type 0
ValidHasEnd =
    (s : Setting) (formula : QueryData → Formula) (limit : ℕ) (file : List ℕ) (verdict : Conclusion) (reach : Reach) → IsJudged s formula limit file (Ok (Valid verdict reach))
    → (front : List Line) × All IsLine front × IsLine (lines.End verdict) × (file ≡ all_written front ++ written (lines.End verdict))
