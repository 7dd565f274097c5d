use Rattle.std.proofs.Common.{arith, ap, length, subst, sym}
use Rattle.program_tree.specs.View.{cells_view}
use Rattle.scan_model.specs.Scans.{ranges_of}
use Rattle.scan_model.specs.InRange.{IsInRange}
use Rattle.scan_model.proofs.Keeping.{IsInRange-length}
use Rattle.scan_replay.specs.Machines.{Running}
use Rattle.scan_replay.proofs.machine.Machine.set_state.Goals as goal

pub copy_over-requires : goal.copy_over-requires
copy_over-requires c =
    let fits = subst (λ (m : Running). IsInRange (ranges_of (cells_view m.program.cells.items)) c.args.values.now) (sym c.self.view_is) c.requires in
    omega (arith, IsInRange-length _ _ c.self.invariant.2, IsInRange-length _ _ fits, ap length c.deref_mut.ensures.value)
