use Rattle.std.proofs.Common.{arith, ◌≡◌, pos, ◌^◌}
use Rattle.std.specs.Prelude.{◌<ℤ◌, ◌≤ℤ◌}
use Rattle.std.specs.Int.{int_rem_euclid}
use Rattle.std.proofs.lemmas.Int.{ints, to_z-of_z}
use Rattle.num_core.proofs.Wrapped.{below_wraps, above_wraps, wrap_is, same_wrapped}
use Rattle.num_core.proofs.wrapping.wrap.Goals as goal

pub returns-then-remainder-greatest-clause-wraps : goal.returns-then-remainder-greatest-clause-wraps
returns-then-remainder-greatest-clause-wraps c =
    let e : c.rem_euclid-remainder.result ≡ int_rem_euclid c.args.v (pos (2 ^ c.args.t.width)) = grind (arith, to_z-of_z) in
    let above : c.greatest.result <ℤ c.rem_euclid-remainder.result = grind (arith, ints) in
    above_wraps c.args.t.width c.args.t.signed c.args.v c.rem_euclid-remainder.result _ c.args.t.some_bits e (rw (← c.greatest.ensures) above) (omega (arith, ints))

pub returns-then-remainder-greatest-clause-value : goal.returns-then-remainder-greatest-clause-value
returns-then-remainder-greatest-clause-value c =
    wrap_is _ _ _ _ c.args.t.some_bits (returns-then-remainder-greatest-clause-wraps c)

pub returns-then-remainder-greatest-clause-only : goal.returns-then-remainder-greatest-clause-only
returns-then-remainder-greatest-clause-only c n wraps =
    same_wrapped _ _ _ _ _ c.args.t.some_bits wraps (returns-then-remainder-greatest-clause-wraps c)

pub returns-else-remainder-greatest-clause-wraps : goal.returns-else-remainder-greatest-clause-wraps
returns-else-remainder-greatest-clause-wraps c =
    let e : c.rem_euclid-remainder.result ≡ int_rem_euclid c.args.v (pos (2 ^ c.args.t.width)) = grind (arith, to_z-of_z) in
    let within : c.rem_euclid-remainder.result ≤ℤ c.greatest.result = grind (arith, ints) in
    below_wraps c.args.t.width c.args.t.signed c.args.v c.rem_euclid-remainder.result _ c.args.t.some_bits e (rw (← c.greatest.ensures) within) (omega (arith, ints))

pub returns-else-remainder-greatest-clause-value : goal.returns-else-remainder-greatest-clause-value
returns-else-remainder-greatest-clause-value c =
    wrap_is _ _ _ _ c.args.t.some_bits (returns-else-remainder-greatest-clause-wraps c)

pub returns-else-remainder-greatest-clause-only : goal.returns-else-remainder-greatest-clause-only
returns-else-remainder-greatest-clause-only c n wraps =
    same_wrapped _ _ _ _ _ c.args.t.some_bits wraps (returns-else-remainder-greatest-clause-wraps c)
