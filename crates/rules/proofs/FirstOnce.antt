-- The first of several refusals is one.
use Rattle.std.proofs.Common.{◌≡◌, ◌⊎◌, true, sym, arith, inl, inr}
use Rattle.std.proofs.lemmas.Bool.Decides.{nat_tests}
use Rattle.rules.specs.declared.rule.Refusal.{Refusal}
use Rattle.rules.specs.Rules.{comes_before, IsFirst}

not_both_before : (a b : Refusal) → comes_before a b ≡ true → comes_before b a ≡ true → a ≡ b
not_both_before a b h k = absurd (grind (arith, nat_tests))

one_of : (a b : Refusal) → (a ≡ b) ⊎ (comes_before a b ≡ true) → (b ≡ a) ⊎ (comes_before b a ≡ true) → a ≡ b
one_of a b (inl h) k = h
one_of a b (inr h) (inl k) = sym k
one_of a b (inr h) (inr k) = not_both_before a b h k

pub first_once : (broken : Refusal → Type 0) (r s : Refusal) → IsFirst broken r → IsFirst broken s → r ≡ s
first_once broken r s h k = one_of r s (h.before s k.is_broken) (k.before r h.is_broken)
