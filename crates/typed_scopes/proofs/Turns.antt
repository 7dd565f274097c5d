-- The values that a FOR gives its control variable lie in its range.
use Rattle.std.proofs.Common.{◌≡◌, ℕ, zero, suc, ℤ, pos, ◌+ℤ◌, ◌*ℤ◌, Bool, true, false, ◌&&◌, nat_lt, if◌then◌else◌, Some, None, refl, subst, arith}
use Rattle.std.proofs.lemmas.Bool.{and_parts, and_from}
use Rattle.std.proofs.lemmas.Int.{ints}
use Rattle.rules.specs.declared.rule.Rule.TheVariants.{StepZero, TooManyTurns, OutsideControl}
use Rattle.plc_types.specs.declared.range.Range.{Range}
use Rattle.plc_types.specs.Types.{in_range}
use Rattle.meaning.specs.Values.{is_zero}
use Rattle.typing.specs.Constants.{turn_count, are_in_range, broken_by_turns}

no_step : (v step : ℤ) → v ≡ v +ℤ pos 0 *ℤ step
no_step v step = grind (arith, ints)

one_more : (v step : ℤ) (n : ℕ) → (v +ℤ step) +ℤ pos n *ℤ step ≡ v +ℤ pos (suc n) *ℤ step
one_more v step n = grind (arith, ints)

first_and_last : (n : ℕ) (v step : ℤ) (r : Range) → are_in_range n v step r ≡ true → (in_range v r ≡ true) × (in_range (v +ℤ pos n *ℤ step) r ≡ true)
first_and_last zero v step r h = (h, subst (λ (x : ℤ). in_range x r ≡ true) (no_step v step) h)
first_and_last (suc n) v step r h =
    let both = and_parts (in_range v r) (are_in_range n (v +ℤ step) step r) h in
    (both.0, subst (λ (x : ℤ). in_range x r ≡ true) (one_more v step n) (first_and_last n (v +ℤ step) step r both.1).1)

no_rule : (zero_step many within : Bool) → (if zero_step then Some StepZero else (if many then Some TooManyTurns else (if within then None else Some OutsideControl))) ≡ None → within ≡ true
no_rule true many within h = absurd (let z : ⊥ = cc in z)
no_rule false true within h = absurd (let z : ⊥ = cc in z)
no_rule false false true h = refl
no_rule false false false h = absurd (let z : ⊥ = cc in z)

pub turns_in : (r : Range) (first last step : ℤ) → broken_by_turns r first last step ≡ None → in_range first r && in_range (first +ℤ pos (turn_count first last step) *ℤ step) r ≡ true
turns_in r first last step h =
    let count = turn_count first last step in
    let both = first_and_last count first step r (no_rule (is_zero step) (nat_lt 4096 count) (are_in_range count first step r) h) in
    and_from _ _ both.0 both.1
