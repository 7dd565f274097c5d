-- Why a reader or a writer of a finding answers a fault.
use Rattle.std.specs.Prelude.{◌≡◌, ℕ, List, Result, Err}
use Rattle.outside.specs.Causes.{Rose, NoneFell}

-- no count of these falls, and this error comes only where the file's count rose
pub record IsCausedBy {T E : Type 0} (fault : E) (before now : List ℕ → ℕ) (name : List ℕ) (result : Result T E) : Type 0 where
  pub later : NoneFell before now
  pub failed : result ≡ Err fault → Rose (before name) (now name)
