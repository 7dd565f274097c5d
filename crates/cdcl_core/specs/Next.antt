-- What the next step of a decision gives.
use Rattle.std.specs.Prelude.{◌≡◌, ◌≢◌, ℕ, Bool, true, List, [], map}
use Rattle.clause_core.specs.declared.literal.Lit.{Lit}
use Rattle.clause_core.specs.declared.truth.Truth.{Truth}
use Rattle.clause_core.specs.Values.{is_true}
use Rattle.clause_core.specs.Satisfaction.{assigned, formula_true}
use Rattle.clause_core.specs.Freshness.{IsFresh}
use Rattle.clause_core.specs.Logs.{IsGoodStep}
use Rattle.cdcl_core.specs.declared.next.Next.{Next}
use Rattle.cdcl_core.specs.declared.next.Next.TheVariants.{Found, Derived}

-- the assignment that a list of values stands for: an open variable is false
abbrev pub assignment : List Truth → ℕ → Bool
assignment vs = assigned (map is_true vs)

-- the values satisfy all that is held, or the step is right, and fresh unless it is empty
abbrev pub IsNext : ℕ → List (List Lit) → List Truth → Next → Type 0
IsNext variables held vs Found = formula_true (assignment vs) held ≡ true
IsNext variables held vs (Derived s) = IsGoodStep variables held s × (s.clause ≢ [] → IsFresh held s.clause)
