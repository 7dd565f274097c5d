use Rattle.std.proofs.Common.{◌≡◌, true, sym, subst, arith}
use Rattle.program_tree.specs.View.{program_view, cells_view}
use Rattle.program_tree.specs.Cells.{inputs_of}
use Rattle.scan_model.specs.Scans.{ranges_of}
use Rattle.scan_model.proofs.Keeping.{IsInRange-put_at}
use Rattle.scan_replay.specs.Machines.{Running, fits_inputs, with_inputs}
use Rattle.scan_replay.proofs.RowLemmas.{written_back}
use Rattle.scan_replay.proofs.machine.Machine.load.Goals as goal

pub invariant_of-self : goal.invariant_of-self
invariant_of-self c =
    let fits : fits_inputs c.self.inside.program.now c.args.row.now ≡ true =
    subst (λ (m : Running). fits_inputs m.program c.args.row.now ≡ true) (sym c.self.view_is) c.requires in
    let kept = IsInRange-put_at (ranges_of (cells_view c.self.inside.program.now.cells.items)) (inputs_of (program_view c.self.inside.program.now)) c.args.row.now c.self.inside.state.items fits c.self.invariant.2 in
    let is : c.put_all.new.state ≡ with_inputs c.self.inside.program.now c.args.row.now c.self.inside.state.items = rw (c.put_all.ensures, c.deref.ensures.value, c.deref_mut.ensures.value, c.self.invariant.1) in
    (c.self.invariant.0, c.self.invariant.1, written_back _ _ _ _ _ (omega arith) is kept, c.self.invariant.3, c.self.invariant.4)
