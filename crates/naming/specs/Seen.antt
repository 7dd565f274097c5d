-- What is known of a variable.
use Rattle.std.specs.Prelude.{ℕ, Bool, Option}
use Rattle.naming.specs.declared.role.Role.{Role}

-- whether its declaration breaks no rule, what it is for, and of an instance its block, by its number
pub record Seen : Type 0 where
  pub whole : Bool
  pub role : Role
  pub block : Option ℕ
