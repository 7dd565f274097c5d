-- What noted hints do.
use Rattle.std.specs.Prelude.{◌≡◌, ℕ, List, [], ◌∷◌, ◌++◌}
use Rattle.clause_core.specs.declared.literal.Lit.{Lit}
use Rattle.clause_core.specs.declared.truth.Truth.{Truth}
use Rattle.clause_core.specs.declared.check.Outcome.TheVariants.{Accepted, NoConflict}
use Rattle.clause_core.specs.Steps.{follow_hints}

-- the hints lead from `start` to `vs`
abbrev pub Leads : List (List Lit) → List Truth → List Truth → List ℕ → Type 0
Leads held start vs hs = (rest : List ℕ) → follow_hints held start (hs ++ rest) ≡ follow_hints held vs rest

-- the hints end in a conflict, by the last of them
pub record Derives (held : List (List Lit)) (start : List Truth) (hs : List ℕ) : Type 0 where
  pub accepted : follow_hints held start hs ≡ Accepted
  pub last : (front : List ℕ) × (h : ℕ) × (hs ≡ front ++ h ∷ []) × (follow_hints held start front ≡ NoConflict)
