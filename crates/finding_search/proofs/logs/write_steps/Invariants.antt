use Rattle.std.proofs.Common.{drop}
use Rattle.std.specs.Prelude.{Ok, Result}
use Rattle.clause_core.specs.Formula.{Formula}
use Rattle.finding_file.specs.declared.errors.WriteErr.{WriteErr}
use Rattle.queries.specs.Settings.{Setting}
use Rattle.queries.specs.Questions.{QueryData}
use Rattle.judgement.specs.Places.{Place}
use Rattle.finding_search.specs.Desks.{desk}
use Rattle.finding_search.specs.Passing.{Runs}
use Rattle.finding_search.specs.Shown.{lines_of}
use Rattle.finding_search.specs.Writes.{Writes}
use Rattle.finding_search.proofs.logs.write_steps.Given as goal

abbrev pub invariant-loop-entry : goal.invariant-loop-entry
invariant-loop-entry g l =
    (s : Setting) (formula : QueryData → Formula) (from to : Place) → Runs s formula from (lines_of l.entries) to
    → (at : Place) × Runs s formula at (lines_of (drop l.entry-index l.entries)) to
    × Writes s formula (desk (g.S.Shelf.state l.initial.shelf) l.initial.writer) from
    (desk (g.S.Shelf.state l.shelf) l.writer) (λ (x : Unit {0}). at) (let r : Result (Unit {0}) WriteErr = Ok tt in r)
