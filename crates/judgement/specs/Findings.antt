-- Findings as files, and how they are judged.
use Rattle.std.specs.Prelude.{◌≡◌, ◌≢◌, ℕ, ◌+◌, ◌<◌, ◌≤◌, List, [], ◌∷◌, ◌++◌, length, take, Result, Ok, Err, ◌⊎◌}
use Rattle.clause_core.specs.Formula.{Formula}
use Rattle.finding_lines.specs.declared.line.Line.{Line}
use Rattle.finding_lines.specs.Form.{IsLine}
use Rattle.finding_lines.specs.Spelling.{spelled, written}
use Rattle.finding_file.specs.Ahead.{Ahead, nothing, ended, unended, ahead, size}
use Rattle.finding_file.specs.Answering.{IsNoSpelling}
use Rattle.finding_file.specs.Writing.{all_written}
use Rattle.queries.specs.Settings.{Setting}
use Rattle.queries.specs.Questions.{QueryData}
use Rattle.judgement.specs.Places.{Place, at_top, finished, goes, fails}
use Rattle.judgement.specs.Tests.{Moves}
use Rattle.judgement.specs.declared.answers.Reason.{Reason}
use Rattle.judgement.specs.declared.answers.Reason.TheVariants.{B1, B12, B13}
use Rattle.judgement.specs.declared.answers.Judged.{Judged}
use Rattle.judgement.specs.declared.answers.Judged.TheVariants.{Valid, Bad}
use Rattle.judgement.specs.declared.answers.JudgeErr.{JudgeErr}
use Rattle.judgement.specs.declared.answers.JudgeErr.TheVariants.{Fault, Memory, M8}

module _ (s : Setting) (formula : QueryData → Formula) where
  -- lines that all pass, each judged from those before it, lead from the top to a place
  pub data Leads : List Line → Place → Type 0 where
    nowhere : Leads [] at_top
    on : (lines : List Line) (line : Line) (before place : Place) → Leads lines before → IsLine line → Moves s formula before line (goes place)
        → Leads (lines ++ line ∷ []) place

  -- at the front of a file stand lines that all pass and end within the limit; they lead to a place, and the rest follows
  pub record Stands (limit : ℕ) (file : List ℕ) (lines : List Line) (place : Place) (rest : List ℕ) : Type 0 where
    pub leads : Leads lines place
    pub whole : file ≡ all_written lines ++ rest
    pub within : length (all_written lines) ≤ limit

  -- the first test that the next line fails, by what stands ahead
  abbrev pub FailsAhead : Place → Ahead → Reason → Type 0
  FailsAhead place nothing reason = reason ≡ B13
  FailsAhead place (unended text) reason = reason ≡ B13
  FailsAhead place (ended text rest) reason =
      (IsNoSpelling text × (reason ≡ B1)) ⊎ ((line : Line) × IsLine line × (text ≡ spelled line) × Moves s formula place line (fails reason))

  -- behind the END line any byte fails, and else the next line fails by its tests
  abbrev pub Fails : Place → List ℕ → Reason → Type 0
  Fails (finished reach verdict) rest reason = (rest ≢ []) × (reason ≡ B12)
  Fails place rest reason = FailsAhead place (ahead rest) reason

  -- the line that follows holds the first byte past the limit
  abbrev pub IsTooLong : ℕ → List Line → List ℕ → Type 0
  IsTooLong limit lines rest = limit < length (all_written lines) + size (ahead rest)

  -- What is said of a file: it is a finding, its verdict, and what it says of reach; or the first line that fails, and the test; or that a line that
  -- follows lines which all pass is too long.
  abbrev pub IsJudged : ℕ → List ℕ → Result Judged JudgeErr → Type 0
  IsJudged limit file (Ok (Valid verdict reach)) = (lines : List Line) × Stands limit file lines (finished reach verdict) []
  IsJudged limit file (Ok (Bad line reason)) =
      (lines : List Line) × (place : Place) × (rest : List ℕ) × Stands limit file lines place rest
      × (line ≡ length lines + 1) × (¬ IsTooLong limit lines rest) × Fails place rest reason
  IsJudged limit file (Err M8) = (lines : List Line) × (place : Place) × (rest : List ℕ) × Stands limit file lines place rest × IsTooLong limit lines rest
  IsJudged limit file (Err Fault) = Unit {0}
  IsJudged limit file (Err Memory) = Unit {0}

  -- a prefix of a finding: lines that all pass, then a prefix of one more that would pass
  abbrev pub IsPrefixOfFinding : List ℕ → Type 0
  IsPrefixOfFinding file =
      (lines : List Line) × (place : Place) × Leads lines place
      × (line : Line) × (then : Place) × IsLine line × Moves s formula place line (goes then)
      × (count : ℕ) × (file ≡ all_written lines ++ take count (written line))
