use Rattle.std.proofs.Common.{◌<◌, arith, length, subst, sym}
use Rattle.scan_model.proofs.Keeping.{IsInRange-length}
use Rattle.scan_replay.specs.Machines.{Running}
use Rattle.scan_replay.proofs.RowLemmas.{length-ranges}
use Rattle.scan_replay.proofs.machine.Machine.value.Goals as goal

pub value_at-requires : goal.value_at-requires
value_at-requires c =
    let below : c.args.cell < length c.self.inside.program.now.cells.items =
    subst (λ (m : Running). c.args.cell < length m.program.cells.items) (sym c.self.view_is) c.requires in
    omega (arith, IsInRange-length _ _ c.self.invariant.2, length-ranges c.self.inside.program.now.cells.items)
