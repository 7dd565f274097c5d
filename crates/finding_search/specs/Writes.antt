-- What a call does that writes lines of a finding.
use Rattle.std.specs.Prelude.{◌≡◌, ◌≤◌, ℕ, List, length, IfSome, Result, MatchResult, ◌⊎◌}
use Rattle.outside.specs.Causes.{NoneFell}
use Rattle.outside.specs.Contents.{OthersStay}
use Rattle.clause_core.specs.Formula.{Formula}
use Rattle.finding_lines.specs.declared.line.Line.{Line}
use Rattle.finding_file.specs.Causes.{IsCausedBy}
use Rattle.finding_file.specs.Writing.{all_written}
use Rattle.finding_file.specs.declared.errors.WriteErr.{WriteErr}
use Rattle.finding_file.specs.declared.errors.WriteErr.TheVariants.{Fault, M8}
use Rattle.derivation_check.specs.Checks.{Derivation}
use Rattle.queries.specs.Settings.{Setting, first_set}
use Rattle.queries.specs.Questions.{QueryData}
use Rattle.judgement.specs.Places.{Place, at_drops, in_walk}
use Rattle.judgement.specs.Findings.{Leads}
use Rattle.judgement.specs.declared.answers.Reach.TheVariants.{AtLeast}
use Rattle.finding_search.specs.Desks.{Desk, finding}
use Rattle.finding_search.specs.Passing.{IsPartOfFinding, IsFull}

-- Behind the log that spends the query for allowed rows a line that is no part of it is judged as where candidates are dropped.
abbrev pub GoesOnAs : Setting → Place → Place → Type 0
GoesOnAs s there place = (there ≡ place) ⊎ ((rows : ℕ) × (d : Derivation) × (there ≡ in_walk rows d 0) × (place ≡ at_drops (AtLeast rows) (first_set s)))

module _ (s : Setting) (formula : QueryData → Formula) where
  -- the lines written so far all pass and lead to the place, or to one from where it goes on alike; where the finding is told it holds them alone
  pub record StandsAt (d : Desk) (place : Place) : Type 0 where
    pub all : List Line
    pub there : Place
    pub leads : Leads s formula all there
    pub alike : GoesOnAs s there place
    pub told : IfSome (finding d) (λ bytes. bytes ≡ all_written all)
    pub counted : d.writer.size ≡ length (all_written all)
    pub within : length (all_written all) ≤ d.writer.limit

  -- what an error leaves
  pub record StopsAt (d : Desk) (error : WriteErr) : Type 0 where
    pub part : IfSome (finding d) (IsPartOfFinding s formula)
    pub past : error ≡ M8 → IsFull s formula (finding d) d.writer.limit

  -- from one place to another, which the answer may decide; nothing but the finding is written
  pub record Writes {T : Type 0} (old : Desk) (from : Place) (new : Desk) (to : T → Place) (result : Result T WriteErr) : Type 0 where
    pub stands : StandsAt old from → MatchResult result (λ x. StandsAt new (to x)) (λ e. StopsAt new e)
    pub name : new.writer.name ≡ old.writer.name
    pub limit : new.writer.limit ≡ old.writer.limit
    pub others : OthersStay old.shelf.file new.shelf.file old.writer.name
    pub cause : IsCausedBy Fault old.shelf.write_faults new.shelf.write_faults old.writer.name result
    pub reads : NoneFell old.shelf.read_faults new.shelf.read_faults
