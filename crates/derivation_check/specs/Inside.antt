-- How a checker keeps what it holds.
use Rattle.std.specs.Prelude.{◌≡◌, ℕ, ◌+◌, ◌≤◌, Bool, true, false, List, [], ◌∷◌, length, take, drop, replicate}
use Rattle.std.specs.List.{list_any}
use Rattle.clause_core.specs.declared.literal.Lit.{Lit}
use Rattle.clause_core.specs.declared.truth.Truth.TheVariants.{Open}
use Rattle.clause_core.specs.Satisfaction.{formula_true}
use Rattle.derivation_check.specs.declared.checker.Checker.TheInside.{Inside}
use Rattle.derivation_check.specs.Checks.{Derivation, derivation_from}
use Rattle.derivation_check.specs.Tests.{IsTestOf}

abbrev pub derivation_of : Inside → Derivation
derivation_of c = derivation_from c.given c.held

abbrev pub is_empty : List Lit → Bool
is_empty [] = true
is_empty (l ∷ ls) = false

pub record IsSound (c : Inside) : Type 0 where
  pub given : c.given ≤ length c.held.clauses
  pub unassigned : c.values.items ≡ replicate (c.held.variables + 1) Open
  pub test : IsTestOf c.held c.test
  pub implied : (v : ℕ → Bool) → formula_true v (take c.given c.held.clauses) ≡ true → formula_true v c.held.clauses ≡ true
  pub refuted : c.is_refuted ≡ list_any is_empty (drop c.given c.held.clauses)
