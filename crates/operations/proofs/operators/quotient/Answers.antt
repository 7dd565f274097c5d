use Rattle.std.proofs.Common.{◌≡◌, ◌≢◌, ◌∙◌, ap, sym, ℤ, pos, negsuc, neg_ℤ, to_z, of_z, arith}
use Rattle.std.specs.Int.{w128, cast_unsigned}
use Rattle.std.proofs.lemmas.Int.{ints, quot_is}
use Rattle.num_core.specs.Division.{quot}
use Rattle.plc_types.specs.Types.{wrap_to}
use Rattle.meaning.specs.Values.{or_zero}
use Rattle.operations.proofs.Wide.{quotient_by_minus_one, quotient_of, quotient_fits}
use Rattle.operations.proofs.operators.quotient.Goals as goal

pub returns-then-right-eqminus1 : goal.returns-then-right-eqminus1
returns-then-right-eqminus1 c =
    let same : to_z w128 (of_z w128 c.negated.result) ≡ c.negated.result = omega (arith, ints) in
    let left : to_z w128 (of_z w128 c.args.left) ≡ c.args.left = omega (arith, ints) in
    let right : c.args.right ≡ negsuc 0 = grind (arith, ints) in
    same ∙ (c.negated.ensures ∙ ap (λ (x : ℤ). wrap_to c.args.kind x) (ap (λ (x : ℤ). neg_ℤ x) left ∙ sym (quotient_by_minus_one c.args.left) ∙ ap (λ (x : ℤ). or_zero (quot c.args.left x)) (sym right)))

pub returns-else-right-eqminus1 : goal.returns-else-right-eqminus1
returns-else-right-eqminus1 c =
    let same : to_z w128 (of_z w128 c.wrap_value-else-right-eqminus1.result) ≡ c.wrap_value-else-right-eqminus1.result = omega (arith, ints) in
    let some : c.args.right ≢ pos 0 = λ h. c.if-right-eq0.false (ap (cast_unsigned w128) h) in
    let other : c.args.right ≢ negsuc 0 = λ h. c.if-right-eqminus1.false (ap (cast_unsigned w128) h) in
    same ∙ (c.wrap_value-else-right-eqminus1.ensures ∙ ap (λ (x : ℤ). wrap_to c.args.kind x) (quot_is w128 c.args.left c.args.right c.ranges.left c.ranges.right (quotient_fits c.args.left c.args.right c.ranges.left some other) ∙ sym (quotient_of c.args.left c.args.right some)))
