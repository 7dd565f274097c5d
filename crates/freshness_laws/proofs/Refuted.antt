-- Where unit propagation alone refutes, no partial assignment leaves each held clause unforced.
use Rattle.std.proofs.Common.{◌≡◌, ℕ, zero, suc, ◌+◌, true, List, [], ◌∷◌, Option, Some, None, get_or, replicate, refl, subst, arith}
use Rattle.std.specs.Prelude.{slice_get}
use Rattle.clause_core.specs.declared.literal.Lit.{Lit}
use Rattle.clause_core.specs.declared.truth.Truth.{Truth}
use Rattle.clause_core.specs.declared.truth.Truth.TheVariants.{Open}
use Rattle.clause_core.specs.declared.status.Status.{Status}
use Rattle.clause_core.specs.declared.status.Status.TheVariants.{Falsified, Unit as UnitLiteral, Neither}
use Rattle.clause_core.specs.declared.check.Outcome.{Outcome}
use Rattle.clause_core.specs.declared.check.Outcome.TheVariants.{Accepted}
use Rattle.clause_core.specs.Values.{put_true}
use Rattle.clause_core.specs.Steps.{clause_status, clause_at, after_status, at_hint, follow_hints, outcome}
use Rattle.clause_core.specs.Propagation.{Below, Extends}
use Rattle.clause_core.specs.Freshness.{unforced, Unforced, IsFresh}
use Rattle.clause_core.proofs.Extensions.{Forces, Forces-clause_status, Extends-put_true}

from-open : (n x : ℕ) (t : Truth) → Below (get_or (replicate n Open) x Open) t
from-open zero x t = tt
from-open (suc n) zero t = tt
from-open (suc n) (suc x) t = from-open n x t

held-at : (held : List (List Lit)) (i : ℕ) (c : List Lit) (rho : List Truth) → Unforced held rho → slice_get held i ≡ Some c → unforced rho c ≡ true
held-at [] i c rho un is = cc
held-at (d ∷ held) zero c rho un is = let same : d ≡ c = cc in subst (λ e. unforced rho e ≡ true) same (un 0 d (omega arith))
held-at (d ∷ held) (suc i) c rho un is = held-at held i c rho (λ k e lt. un (suc k) e (omega arith)) is

held-of : (held : List (List Lit)) (h : ℕ) (c : List Lit) (rho : List Truth) → Unforced held rho → clause_at held h ≡ Some c → unforced rho c ≡ true
held-of held zero c rho un is = cc
held-of held (suc i) c rho un is = held-at held i c rho un is

module _ (held : List (List Lit)) (rho : List Truth) (un : Unforced held rho) where
  by_status : (h : ℕ) (u : List Truth) (s : Status) (go : List Truth → Outcome) → Extends rho u → Forces rho s → ((w : List Truth) → Extends rho w → go w ≡ Accepted → ⊥) → after_status h s u go ≡ Accepted → ⊥
  by_status h u Falsified go e f rest is = f
  by_status h u (UnitLiteral l) go e f rest is = rest (put_true u l) (Extends-put_true rho u l e f) is
  by_status h u Neither go e f rest is = cc

  by_clause : (h : ℕ) (u : List Truth) (o : Option (List Lit)) (go : List Truth → Outcome) → ((c : List Lit) → o ≡ Some c → unforced rho c ≡ true) → Extends rho u
      → ((w : List Truth) → Extends rho w → go w ≡ Accepted → ⊥) → at_hint h o u go ≡ Accepted → ⊥
  by_clause h u None go in_held e rest is = cc
  by_clause h u (Some c) go in_held e rest is = by_status h u (clause_status u c) go e (Forces-clause_status rho u c e (in_held c refl)) rest is

  follow : (hs : List ℕ) (u : List Truth) → Extends rho u → follow_hints held u hs ≡ Accepted → ⊥
  follow [] u e is = cc
  follow (h ∷ hs) u e is = by_clause h u (clause_at held h) (λ next. follow_hints held next hs) (λ c at. held-of held h c rho un at) e (λ w k more. follow hs w k more) is

pub nothing_fresh : (variables : ℕ) (held : List (List Lit)) (hints : List ℕ) (clause : List Lit) → outcome variables held [] hints ≡ Accepted → IsFresh held clause → ⊥
nothing_fresh variables held hints clause is fresh = follow held fresh.1 fresh.2.unforced hints (replicate (variables + 1) Open) (λ x. from-open (variables + 1) x (get_or fresh.1 x Open)) is
