use Rattle.std.proofs.Common.{arith}
use Rattle.scan_model.proofs.Keeping.{IsInRange-length}
use Rattle.scan_replay.proofs.RowLemmas.{length-ranges}
use Rattle.scan_replay.proofs.states.state_fits.Goals as goal

pub returns-then-cells-values : goal.returns-then-cells-values
returns-then-cells-values c =
    (λ h. cc, λ f. absurd (omega (arith, length-ranges c.args.cells.now, IsInRange-length _ _ f)))
