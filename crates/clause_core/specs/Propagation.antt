-- A partial assignment that goes further than another, and what unit propagation reaches.
use Rattle.std.specs.Prelude.{◌≡◌, ℕ, List, All, slice_index_or}
use Rattle.clause_core.specs.declared.literal.Lit.{Lit}
use Rattle.clause_core.specs.declared.truth.Truth.{Truth}
use Rattle.clause_core.specs.declared.truth.Truth.TheVariants.{Open, True, False}
use Rattle.clause_core.specs.declared.status.Status.TheVariants.{Neither}
use Rattle.clause_core.specs.Values.{is_open, how_many}
use Rattle.clause_core.specs.Steps.{clause_status}
use Rattle.clause_core.specs.Freshness.{Unforced}

-- a value, and what it may become: an open one anything
abbrev pub Below : Truth → Truth → Type 0
Below Open u = Unit {0}
Below True u = u ≡ True
Below False u = u ≡ False

-- `further` gives each variable that `vs` gives a value the same value
abbrev pub Extends : List Truth → List Truth → Type 0
Extends further vs = (x : ℕ) → Below (slice_index_or vs x Open) (slice_index_or further x Open)

-- each partial assignment beyond `start` that leaves no held clause forced is beyond `further` too
abbrev pub IsImplied : List (List Lit) → List Truth → List Truth → Type 0
IsImplied held start further = (rho : List Truth) → Extends rho start → Unforced held rho → Extends rho further

-- no held clause is false or unit
abbrev pub IsClosed : List (List Lit) → List Truth → Type 0
IsClosed held vs = All (λ c. clause_status vs c ≡ Neither) held

-- how many variables are open
abbrev pub open_count : List Truth → ℕ
open_count vs = how_many is_open vs
