use Rattle.std.proofs.Common.{drop}
use Rattle.std.specs.Prelude.{Ok, Result}
use Rattle.clause_core.specs.Formula.{Formula}
use Rattle.finding_file.specs.declared.errors.WriteErr.{WriteErr}
use Rattle.queries.specs.Settings.{Setting}
use Rattle.queries.specs.Questions.{QueryData}
use Rattle.judgement.specs.Places.{Place}
use Rattle.finding_search.specs.Desks.{desk}
use Rattle.finding_search.specs.Passing.{Runs}
use Rattle.finding_search.specs.Shown.{walks_of}
use Rattle.finding_search.specs.Writes.{Writes}
use Rattle.finding_search.proofs.walks.write_rows.Given as goal

abbrev pub invariant-loop-row : goal.invariant-loop-row
invariant-loop-row g l =
    (s : Setting) (formula : QueryData → Formula) (from to : Place) → Runs s formula from (walks_of l.rows) to
    → (at : Place) × Runs s formula at (walks_of (drop l.row-index l.rows)) to
    × Writes s formula (desk (g.S.Shelf.state l.initial.shelf) l.initial.writer) from
    (desk (g.S.Shelf.state l.shelf) l.writer) (λ (x : Unit {0}). at) (let r : Result (Unit {0}) WriteErr = Ok tt in r)
