-- Numbers of deletions that are cut short name the same derived clauses.
use Rattle.std.proofs.Common.{◌≡◌, ℕ, ◌+◌, ◌^◌, ◌<◌, Bool, true, false, length, refl, sym, ap, ◌∙◌, arith, ℤ, inl, inr, length-append}
use Rattle.std.specs.Prelude.{nat_lt, if◌then◌else◌, None, slice_get}
use Rattle.std.proofs.lemmas.Bool.{false≢true, cases_lt, lt-ltb, ltb-true, and_right}
use Rattle.std.proofs.lemmas.Option.{slice_get_past}
use Rattle.std.proofs.lemmas.List.{length-set}
use Rattle.derivation_check.specs.Checks.{Derivation, held_of}
use Rattle.derivation_check.specs.Deletions.{derived_place, derived_at, may_delete_clause, may_delete, without}
use Rattle.judgement.specs.Steps.{hint_of}
use Rattle.finding_check.specs.Numbers.{short_hint}

unnamed : (d : Derivation) (n : ℕ) → derived_at d n ≡ None → may_delete d n ≡ false
unnamed d n none = and_right (nat_lt 0 d.formula.variables) _ (ap (may_delete_clause d n) none)

none_at : (d : Derivation) (n : ℕ) (b : Bool) → (b ≡ true → slice_get d.derived (derived_place d n) ≡ None) → (if b then slice_get d.derived (derived_place d n) else None) ≡ None
none_at d n true h = h refl
none_at d n false h = refl

zero_unnamed : (d : Derivation) → derived_at d 0 ≡ None
zero_unnamed d =
    none_at d 0 (nat_lt (length d.formula.clauses) 0) (λ e. let less : length d.formula.clauses < 0 = ltb-true (length d.formula.clauses) 0 e in absurd (omega (arith, less)))

past_unnamed : (d : Derivation) (n : ℕ) → length (held_of d) < n → derived_at d n ≡ None
past_unnamed d n past =
    let all = length-append d.formula.clauses d.derived in
    none_at d n (nat_lt (length d.formula.clauses) n) (λ e. slice_get_past d.derived (derived_place d n) (omega (arith, all, past)))

-- a number may be deleted exactly where its short one may
pub same_deletion : (d : Derivation) (n : ℤ) → length (held_of d) < 2 ^ 32 → may_delete d (short_hint n) ≡ may_delete d (hint_of n)
same_deletion d n few = at (nat_lt (hint_of n) (2 ^ 32)) refl where
  at : (b : Bool) → nat_lt (hint_of n) (2 ^ 32) ≡ b → may_delete d (if b then hint_of n else 0) ≡ may_delete d (hint_of n)
  at true e = refl
  at false e =
      elim (cases_lt (hint_of n) (2 ^ 32)) [
        | inl less ↦ absurd (false≢true (sym e ∙ lt-ltb (hint_of n) (2 ^ 32) less))
        | inr more ↦ unnamed d 0 (zero_unnamed d) ∙ sym (unnamed d (hint_of n) (past_unnamed d (hint_of n) (omega arith)))
      ]

-- and then both are one
pub same_number : (d : Derivation) (n : ℤ) → may_delete d (short_hint n) ≡ true → short_hint n ≡ hint_of n
same_number d n = at (nat_lt (hint_of n) (2 ^ 32)) where
  at : (b : Bool) → may_delete d (if b then hint_of n else 0) ≡ true → (if b then hint_of n else 0) ≡ hint_of n
  at true e = refl
  at false e = absurd (false≢true (sym (unnamed d 0 (zero_unnamed d)) ∙ e))

-- as many clauses are counted as before
pub length-without : (d : Derivation) (n : ℕ) → length (held_of (without d n)) ≡ length (held_of d)
length-without d n = length-append d.formula.clauses _ ∙ ap (λ k. length d.formula.clauses + k) (length-set d.derived (derived_place d n) _) ∙ sym (length-append d.formula.clauses d.derived)
