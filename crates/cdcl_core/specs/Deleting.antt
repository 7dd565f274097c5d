-- What deletions make of a formula and its log.
use Rattle.std.specs.Prelude.{◌≡◌, ℕ, List, [], ◌++◌, length}
use Rattle.clause_core.specs.declared.log.Entry.{Entry}
use Rattle.clause_core.specs.Formula.{Formula}
use Rattle.clause_core.specs.Logs.{steps_of, held_after, IsGoodLog}

-- The log has some deletions more, one after the other, and no step; the formula holds what they leave.
pub record Deletes (given : ℕ) (before after : Formula) (was now : List Entry) : Type 0 where
  pub more : List Entry
  pub logged : now ≡ was ++ more
  pub none : steps_of more ≡ []
  pub good : IsGoodLog before.variables given before.clauses more
  pub held : after.clauses ≡ held_after before.clauses more
  pub variables : after.variables ≡ before.variables
  pub size : length after.clauses ≡ length before.clauses
