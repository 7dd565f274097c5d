-- Where the search for a verdict stands.
use Rattle.std.specs.Prelude.{List, [], ◌∷◌}
use Rattle.clause_core.specs.declared.log.Entry.{Entry}
use Rattle.clause_core.specs.declared.log.Entry.TheVariants.{Derived, Deleted}
use Rattle.clause_core.specs.Formula.{Formula}
use Rattle.derivation_check.specs.Checks.{Derivation}
use Rattle.derivation_check.specs.Deletions.{without}
use Rattle.scan_model.specs.Verdicts.{IsGreatest}
use Rattle.queries.specs.Comparisons.{Comparison}
use Rattle.queries.specs.Questions.{QueryData}
use Rattle.queries.specs.Sets.{members}
use Rattle.judgement.specs.Steps.{with_derived}
use Rattle.judgement.specs.Places.{Place, at_kept, finished}
use Rattle.judgement.specs.Shown.{IsShown}
use Rattle.judgement.specs.declared.answers.Reach.{Reach}
use Rattle.finding_search.specs.declared.dropping.Pruned.{Pruned}
use Rattle.finding_search.specs.declared.dropping.Pruned.TheVariants.{Kept, Spent}

-- the clauses that a log derives are held too, and those that it deletes no more
abbrev pub after_all : Derivation → List Entry → Derivation
after_all d [] = d
after_all d (Derived step ∷ entries) = after_all (with_derived d step.clause) entries
after_all d (Deleted number ∷ entries) = after_all (without d number) entries

-- the set is the greatest inductive one, or the query of the END line is spent
abbrev pub IsPruned : Comparison → (QueryData → Formula) → Pruned → Type 0
IsPruned c formula (Kept set) = IsGreatest c.old c.new c.relation (members set)
IsPruned c formula (Spent verdict) = IsShown c formula verdict

-- behind the log of the set that is kept, or behind the END line, with what has been said of reach
abbrev pub place_of : Reach → Pruned → Place
place_of reach (Kept set) = at_kept reach (members set)
place_of reach (Spent verdict) = finished reach verdict
