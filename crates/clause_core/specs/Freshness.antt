-- When a clause is fresh over what is held: unit propagation alone does not give it.
use Rattle.std.specs.Prelude.{◌≡◌, ◌≢◌, Bool, IsTrue, ◌||◌, nat_le, List, All, Contains}
use Rattle.std.specs.List.{list_any}
use Rattle.clause_core.specs.declared.literal.Lit.{Lit}
use Rattle.clause_core.specs.declared.truth.Truth.{Truth}
use Rattle.clause_core.specs.declared.truth.Truth.TheVariants.{True, False}
use Rattle.clause_core.specs.Values.{how_many, value, is_true, is_open}

-- a literal is true, or two are open
abbrev pub unforced : List Truth → List Lit → Bool
unforced vs c = list_any (λ l. is_true (value vs l)) c || nat_le 2 (how_many (λ l. is_open (value vs l)) c)

-- no held clause is unit or false
abbrev pub Unforced : List (List Lit) → List Truth → Type 0
Unforced held vs = All (λ c. IsTrue (unforced vs c)) held

-- the partial assignment `vs` shows by the literal `p` that the clause is fresh
pub record ShowsFresh (held : List (List Lit)) (clause : List Lit) (p : Lit) (vs : List Truth) : Type 0 where
  pub inside : Contains clause p
  pub others : All (λ l. l ≢ p → value vs l ≡ False) clause
  pub itself : value vs p ≢ True
  pub unforced : Unforced held vs

-- for some literal, a partial assignment shows it
abbrev pub IsFresh : List (List Lit) → List Lit → Type 0
IsFresh held clause = (p : Lit) × (vs : List Truth) × ShowsFresh held clause p vs
