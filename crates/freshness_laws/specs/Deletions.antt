-- What deletions leave as it is.
use Rattle.std.specs.Prelude.{◌≡◌, ◌↔◌, ℕ, IsTrue, List}
use Rattle.std.specs.List.{list_all}
use Rattle.clause_core.specs.declared.literal.Lit.{Lit}
use Rattle.clause_core.specs.declared.check.Outcome.TheVariants.{Accepted}
use Rattle.clause_core.specs.Clauses.{is_set}
use Rattle.clause_core.specs.Steps.{outcome}
use Rattle.clause_core.specs.Freshness.{IsFresh}
use Rattle.clause_core.specs.Deletions.{Thinned}

-- A clause is fresh over what is held exactly where it is fresh over all that was ever held. The clauses are sets: a literal that
-- stands twice in a part would count as two.
abbrev pub FreshOverAll : Type 0
FreshOverAll =
    (all held : List (List Lit)) (clause : List Lit) → IsTrue (list_all is_set all) → Thinned all held → IsFresh held clause ↔ IsFresh all clause

-- a step that is accepted over what is held is accepted over all that was ever held
abbrev pub AcceptedOverAll : Type 0
AcceptedOverAll =
    (variables : ℕ) (all held : List (List Lit)) (clause : List Lit) (hints : List ℕ) → Thinned all held → outcome variables held clause hints ≡ Accepted
    → outcome variables all clause hints ≡ Accepted
