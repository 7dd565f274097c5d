use Rattle.std.proofs.Common.{arith, to_z-of_z}
use Rattle.plc_types.proofs.Widths.{least_bound, greatest_bound}
use Rattle.synthesized_types.proofs.numbers.wrapped.Goals as goal

pub returns : goal.returns
returns c =
    let low = least_bound c.args.kind in
    let high = greatest_bound c.args.kind in
    let within = c.wrap.ensures.wraps.in_range in
    grind (arith, to_z-of_z)
