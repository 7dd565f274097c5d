-- What a fresh clause is not.
use Rattle.std.specs.Prelude.{◌≡◌, ℕ, IsTrue, List, [], All, Contains}
use Rattle.clause_core.specs.declared.literal.Lit.{Lit}
use Rattle.clause_core.specs.declared.check.Outcome.TheVariants.{Accepted}
use Rattle.clause_core.specs.Clauses.{is_set}
use Rattle.clause_core.specs.Steps.{outcome}
use Rattle.clause_core.specs.Freshness.{IsFresh}

-- It has no held clause as a part: a weakened copy of a held clause is not fresh, and neither is a held clause.
abbrev pub NoPartIsHeld : Type 0
NoPartIsHeld =
    (held : List (List Lit)) (clause part : List Lit) → IsFresh held clause → Contains held part → IsTrue (is_set part) → All (λ l. Contains clause l) part → ⊥

-- It is not there where hints accept the empty clause, that is where unit propagation alone finds a held clause false.
abbrev pub NothingIsFreshWhereRefuted : Type 0
NothingIsFreshWhereRefuted =
    (variables : ℕ) (held : List (List Lit)) (hints : List ℕ) (clause : List Lit) → outcome variables held [] hints ≡ Accepted → IsFresh held clause → ⊥
