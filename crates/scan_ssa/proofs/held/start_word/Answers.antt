use Rattle.std.proofs.Common.{arith, sym}
use Rattle.scan_ssa.proofs.HeldLemmas.{start_below, start_past}
use Rattle.scan_ssa.proofs.held.start_word.Goals as goal

pub returns-then-place-cells : goal.returns-then-place-cells
returns-then-place-cells c = sym (start_below c.args.cells c.args.place (omega arith))

pub returns-else-place-cells : goal.returns-else-place-cells
returns-else-place-cells c = sym (start_past c.args.cells c.args.place (omega arith))
