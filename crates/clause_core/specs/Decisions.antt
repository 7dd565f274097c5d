-- What a decider owes.
use Rattle.std.specs.Prelude.{◌≡◌, ℕ, ◌≤◌, List, [], ◌∷◌, ◌++◌, length}
use Rattle.clause_core.specs.declared.step.Step.{Step}
use Rattle.clause_core.specs.declared.log.Entry.{Entry}
use Rattle.clause_core.specs.declared.log.Entry.TheVariants.{Derived}
use Rattle.clause_core.specs.declared.decider.Decided.{Decided}
use Rattle.clause_core.specs.declared.decider.Decided.TheVariants.{Found, Refuted, Spent}
use Rattle.clause_core.specs.Formula.{Formula}
use Rattle.clause_core.specs.Satisfaction.{assigned, Satisfies}
use Rattle.clause_core.specs.Logs.{steps_of, IsGoodLog, IsFreshLog}

-- at most `limit` steps, the last alone empty and the others fresh
pub record IsRefutation (f : Formula) (limit : ℕ) (log : List Entry) : Type 0 where
  pub few : length (steps_of log) ≤ limit
  pub good : IsGoodLog f.variables (length f.clauses) f.clauses log
  pub ends : (front : List Entry) × (last : Step) × (log ≡ front ++ Derived last ∷ []) × (last.clause ≡ []) × IsFreshLog f.clauses front

-- exactly `limit` steps, all fresh and none empty
pub record IsSpent (f : Formula) (limit : ℕ) (log : List Entry) : Type 0 where
  pub all : length (steps_of log) ≡ limit
  pub good : IsGoodLog f.variables (length f.clauses) f.clauses log
  pub fresh : IsFreshLog f.clauses log

-- the answer to a formula with this limit is right
abbrev pub IsDecided : Formula → ℕ → Decided → Type 0
IsDecided f limit (Found values) = Satisfies (assigned values) f.clauses
IsDecided f limit (Refuted log) = IsRefutation f limit log
IsDecided f limit (Spent log) = IsSpent f limit log
