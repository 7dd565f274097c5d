-- Lines that pass, and what they leave of a finding.
use Rattle.std.specs.Prelude.{◌≡◌, ℕ, ◌+◌, ◌<◌, List, [], ◌∷◌, length, Option, IfSome, ◌⊎◌}
use Rattle.clause_core.specs.Formula.{Formula}
use Rattle.clause_core.specs.Logs.{LastDecides}
use Rattle.derivation_check.specs.Checks.{held_of}
use Rattle.finding_lines.specs.declared.line.Line.{Line}
use Rattle.finding_lines.specs.declared.line.Line.TheVariants as lines
use Rattle.finding_lines.specs.Form.{IsLine, HasForm}
use Rattle.finding_lines.specs.Spelling.{written}
use Rattle.finding_file.specs.Writing.{all_written}
use Rattle.queries.specs.Settings.{Setting}
use Rattle.queries.specs.Questions.{QueryData}
use Rattle.judgement.specs.Steps.{step_of}
use Rattle.judgement.specs.Places.{Place, in_log, in_query, in_walk, goes}
use Rattle.judgement.specs.Tests.{Moves}
use Rattle.judgement.specs.Findings.{Leads, IsPrefixOfFinding}

-- no hint of a step stands behind the one that decides
abbrev pub IsTight : Place → Line → Type 0
IsTight (in_log d behind) (lines.Derived literals hints) = LastDecides d.formula.variables (held_of d) (step_of literals hints)
IsTight (in_query reach asked d left) (lines.Derived literals hints) = LastDecides d.formula.variables (held_of d) (step_of literals hints)
IsTight (in_walk rows d left) (lines.Derived literals hints) = LastDecides d.formula.variables (held_of d) (step_of literals hints)
IsTight place line = Unit {0}

module _ (s : Setting) (formula : QueryData → Formula) where
  -- a line leads from one place to another, with no hint too many
  pub record Passes (place : Place) (line : Line) (then : Place) : Type 0 where
    pub form : HasForm line
    pub moves : Moves s formula place line (goes then)
    pub tight : IsTight place line

  -- lines, each of which passes
  abbrev pub Runs : Place → List Line → Place → Type 0
  Runs place [] then = place ≡ then
  Runs place (line ∷ more) then = (between : Place) × Passes place line between × Runs between more then

  -- lines that all pass; or such lines and a prefix of one more that would pass
  abbrev pub IsPartOfFinding : List ℕ → Type 0
  IsPartOfFinding file = ((all : List Line) × (place : Place) × Leads s formula all place × (file ≡ all_written all)) ⊎ IsPrefixOfFinding s formula file

  -- the file holds lines that all pass, where it is told, and some next line that would pass, with no hint too many, goes past the limit
  abbrev pub IsFull : Option (List ℕ) → ℕ → Type 0
  IsFull file limit =
      (all : List Line) × (place : Place) × Leads s formula all place × IfSome file (λ bytes. bytes ≡ all_written all)
      × (line : Line) × (then : Place) × IsLine line × Passes place line then × (limit < length (all_written all) + length (written line))
