-- How a judgement ends.
use Rattle.std.specs.Prelude.{◌≡◌, ℕ, ◌+◌, ◌<◌, List, [], Result, Ok, Err}
use Rattle.clause_core.specs.Formula.{Formula}
use Rattle.finding_file.specs.Ahead.{ahead, size}
use Rattle.queries.specs.Settings.{Setting}
use Rattle.queries.specs.Questions.{QueryData}
use Rattle.judgement.specs.Places.{Place, finished}
use Rattle.judgement.specs.Findings.{Fails}
use Rattle.judgement.specs.declared.answers.Judged.{Judged}
use Rattle.judgement.specs.declared.answers.Judged.TheVariants.{Valid, Bad}
use Rattle.judgement.specs.declared.answers.JudgeErr.{JudgeErr}
use Rattle.judgement.specs.declared.answers.JudgeErr.TheVariants.{Fault, Memory, M8}

-- behind so many bytes and lines that lead to a place, with this rest, the judgement ends so
abbrev pub Ends : Setting → (QueryData → Formula) → ℕ → Place → ℕ → ℕ → List ℕ → Result Judged JudgeErr → Type 0
Ends s formula limit place at count rest (Ok (Valid verdict reach)) = (place ≡ finished reach verdict) × (rest ≡ [])
Ends s formula limit place at count rest (Ok (Bad line reason)) = (line ≡ count + 1) × (¬ (limit < at + size (ahead rest))) × Fails s formula place rest reason
Ends s formula limit place at count rest (Err M8) = limit < at + size (ahead rest)
Ends s formula limit place at count rest (Err Fault) = ⊥
Ends s formula limit place at count rest (Err Memory) = ⊥
