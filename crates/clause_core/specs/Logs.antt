-- Accepted steps, and logs of steps and deletions.
use Rattle.std.specs.Prelude.{◌≡◌, ◌≢◌, ℕ, IsTrue, List, [], ◌∷◌, ◌++◌, length}
use Rattle.clause_core.specs.declared.literal.Lit.{Lit}
use Rattle.clause_core.specs.declared.check.Outcome.TheVariants.{Accepted, NoConflict}
use Rattle.clause_core.specs.declared.step.Step.{Step}
use Rattle.clause_core.specs.declared.log.Entry.{Entry}
use Rattle.clause_core.specs.declared.log.Entry.TheVariants.{Derived, Deleted}
use Rattle.clause_core.specs.Clauses.{rises}
use Rattle.clause_core.specs.Deletions.{IsDeletion, without_number}
use Rattle.clause_core.specs.Steps.{outcome}
use Rattle.clause_core.specs.Freshness.{IsFresh}

-- the step's hints lead from its literals, assumed false, to a false clause
abbrev pub Accepts : ℕ → List (List Lit) → Step → Type 0
Accepts variables held s = outcome variables held s.clause s.hints ≡ Accepted

-- the clauses of steps are held too
abbrev pub with_steps : List (List Lit) → List Step → List (List Lit)
with_steps held [] = held
with_steps held (s ∷ more) = with_steps (held ++ s.clause ∷ []) more

-- each step is accepted over what is held before it, where nothing is deleted
abbrev pub AreAccepted : ℕ → List (List Lit) → List Step → Type 0
AreAccepted variables held [] = Unit {0}
AreAccepted variables held (s ∷ more) = Accepts variables held s × AreAccepted variables (held ++ s.clause ∷ []) more

-- each step is fresh over what is held before it, where nothing is deleted, and none is empty
abbrev pub AreFresh : List (List Lit) → List Step → Type 0
AreFresh held [] = Unit {0}
AreFresh held (s ∷ more) = (IsFresh held s.clause × (s.clause ≢ [])) × AreFresh (held ++ s.clause ∷ []) more

-- the steps of a log in their order
abbrev pub steps_of : List Entry → List Step
steps_of [] = []
steps_of (Derived s ∷ es) = s ∷ steps_of es
steps_of (Deleted n ∷ es) = steps_of es

-- what is held after a log
abbrev pub held_after : List (List Lit) → List Entry → List (List Lit)
held_after held [] = held
held_after held (Derived s ∷ es) = held_after (held ++ s.clause ∷ []) es
held_after held (Deleted n ∷ es) = held_after (without_number n held) es

-- each step is accepted over what is held before it, and each deletion may be made; the first `given` clauses are the formula's
abbrev pub AcceptsLog : ℕ → ℕ → List (List Lit) → List Entry → Type 0
AcceptsLog variables given held [] = Unit {0}
AcceptsLog variables given held (Derived s ∷ es) = Accepts variables held s × AcceptsLog variables given (held ++ s.clause ∷ []) es
AcceptsLog variables given held (Deleted n ∷ es) = IsDeletion variables given held n × AcceptsLog variables given (without_number n held) es

-- the log ends with the empty clause
abbrev pub EndsEmpty : List Entry → Type 0
EndsEmpty log = (front : List Entry) × (last : Step) × (log ≡ front ++ Derived last ∷ []) × (last.clause ≡ [])

-- an accepted log whose last clause is empty
pub record Refutes (variables : ℕ) (formula : List (List Lit)) (log : List Entry) : Type 0 where
  pub accepted : AcceptsLog variables (length formula) formula log
  pub empty : EndsEmpty log

-- no hint stands behind the one that decides
abbrev pub LastDecides : ℕ → List (List Lit) → Step → Type 0
LastDecides variables held s = (front : List ℕ) × (last : ℕ) × (s.hints ≡ front ++ last ∷ []) × (outcome variables held s.clause front ≡ NoConflict)

-- a step as a decider gives it
pub record IsGoodStep (variables : ℕ) (held : List (List Lit)) (s : Step) : Type 0 where
  pub rises : IsTrue (rises variables s.clause)
  pub accepted : Accepts variables held s
  pub last : LastDecides variables held s

-- each step is as a decider gives it, over what is held before it, and each deletion may be made
abbrev pub IsGoodLog : ℕ → ℕ → List (List Lit) → List Entry → Type 0
IsGoodLog variables given held [] = Unit {0}
IsGoodLog variables given held (Derived s ∷ es) = IsGoodStep variables held s × IsGoodLog variables given (held ++ s.clause ∷ []) es
IsGoodLog variables given held (Deleted n ∷ es) = IsDeletion variables given held n × IsGoodLog variables given (without_number n held) es

-- each step is fresh over what is held before it, and none is empty
abbrev pub IsFreshLog : List (List Lit) → List Entry → Type 0
IsFreshLog held [] = Unit {0}
IsFreshLog held (Derived s ∷ es) = (IsFresh held s.clause × (s.clause ≢ [])) × IsFreshLog (held ++ s.clause ∷ []) es
IsFreshLog held (Deleted n ∷ es) = IsFreshLog (without_number n held) es
