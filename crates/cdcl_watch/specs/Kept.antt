-- What stays while a search goes on, and which clauses it has taken in.
use Rattle.std.specs.Prelude.{◌≡◌, ℕ, List, length}
use Rattle.clause_core.specs.declared.literal.Lit.{Lit}
use Rattle.clause_core.specs.declared.truth.Truth.{Truth}
use Rattle.clause_core.specs.Propagation.{IsClosed}
use Rattle.watched_propagation.specs.Propagations.{Propagation}

-- the clauses that are held, and how many values there are, stay
pub record Keeps (old new : Propagation) : Type 0 where
  pub held : new.held ≡ old.held
  pub size : length new.values ≡ length old.values

-- The propagator holds these clauses, which are so many, as they were before some were held no more: where it leaves nothing to
-- propagate, they leave nothing.
pub record HasTaken (p : Propagation) (count : ℕ) (taken : List (List Lit)) : Type 0 where
  pub closed : (values : List Truth) → IsClosed p.held values → IsClosed taken values
  pub many : count ≡ length taken
