-- The values that the hints of a step leave, and how they are opened again.
use Rattle.std.specs.Prelude.{ℕ, List, [], ◌∷◌, Option, Some, None, slice_set}
use Rattle.clause_core.specs.declared.literal.Lit.{Lit}
use Rattle.clause_core.specs.declared.truth.Truth.{Truth}
use Rattle.clause_core.specs.declared.truth.Truth.TheVariants.{Open}
use Rattle.clause_core.specs.declared.status.Status.{Status}
use Rattle.clause_core.specs.declared.status.Status.TheVariants.{Falsified, Unit as UnitLiteral, Neither}
use Rattle.clause_core.specs.Values.{put_true}
use Rattle.clause_core.specs.Steps.{clause_status, clause_at}

-- only a unit clause goes on, its literal true
abbrev pub values_after_status : Status → List Truth → (List Truth → List Truth) → List Truth
values_after_status Falsified vs go = vs
values_after_status (UnitLiteral l) vs go = go (put_true vs l)
values_after_status Neither vs go = vs

abbrev pub values_after_hint : Option (List Lit) → List Truth → (List Truth → List Truth) → List Truth
values_after_hint None vs go = vs
values_after_hint (Some c) vs go = values_after_status (clause_status vs c) vs go

-- each hint that is unit, up to the first that decides, makes its open literal true
abbrev pub after_hints : List (List Lit) → List Truth → List ℕ → List Truth
after_hints held vs [] = vs
after_hints held vs (h ∷ hs) = values_after_hint (clause_at held h) vs (λ next. after_hints held next hs)

-- the variable of each literal is open
abbrev pub reopened : List Truth → List Lit → List Truth
reopened vs [] = vs
reopened vs (l ∷ ls) = reopened (slice_set vs l.variable Open) ls

abbrev pub reopened_clause : List Truth → Option (List Lit) → List Truth
reopened_clause vs None = vs
reopened_clause vs (Some c) = reopened vs c

-- the variables of the clauses of these numbers are open
abbrev pub reopened_at : List (List Lit) → List Truth → List ℕ → List Truth
reopened_at held vs [] = vs
reopened_at held vs (h ∷ hs) = reopened_at held (reopened_clause vs (clause_at held h)) hs
