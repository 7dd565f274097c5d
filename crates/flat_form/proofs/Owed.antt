-- The claim that a test chooses, and what the body of a FOR owes.
use Rattle.std.proofs.Common.{◌≡◌, ℕ, ◌<◌, Bool, true, false, refl, arith, rules, tests}
use Rattle.std.specs.Prelude.{◌==◌}
use Rattle.flat_form.specs.WellTyped.{Choice}

pub first_holds : (test : Bool) (P Q : Type 0) → test ≡ true → P → Choice test P Q
first_holds true P Q e p = p
first_holds false P Q e p = cc

pub second_holds : (test : Bool) (P Q : Type 0) → test ≡ false → Q → Choice test P Q
second_holds true P Q e q = cc
second_holds false P Q e q = q

-- a claim that holds without a test
pub owes : (test : Bool) (P : Type 0) → P → Choice test (Unit {0}) P
owes true P p = tt
owes false P p = p

-- the body of a FOR with turns
by_count : (count : ℕ) (P : Type 0) (none : Bool) → (count == 0) ≡ none → Choice none (Unit {0}) P → 0 < count → P
by_count count P true e p some = let same : count ≡ 0 = search (rules, tests) in absurd (omega (arith, same, some))
by_count count P false e p some = p

pub with_turns : (count : ℕ) (P : Type 0) → Choice (count == 0) (Unit {0}) P → 0 < count → P
with_turns count P p some = by_count count P (count == 0) refl p some
