use Rattle.std.proofs.Common.{◌<◌, arith, length, subst, sym}
use Rattle.scan_model.proofs.Keeping.{IsInRange-length}
use Rattle.scan_replay.specs.Duos.{Compared, program_of}
use Rattle.scan_model.specs.declared.side.Side.TheVariants as sides
use Rattle.scan_replay.proofs.RowLemmas.{length-ranges}
use Rattle.scan_replay.proofs.duo.Duo.value.Goals as goal

pub value_at-requires : goal.value_at-requires
value_at-requires c =
    let below : c.args.cell < length c.self.inside.old_program.now.cells.items =
    subst (λ (d : Compared). c.args.cell < length (program_of sides.Old d).cells.items) (sym c.self.view_is) (rw c.in-Old.is at c.requires) in
    omega (arith, IsInRange-length _ _ c.self.invariant.1.0, length-ranges c.self.inside.old_program.now.cells.items)

pub value_at-requires-in-New : goal.value_at-requires-in-New
value_at-requires-in-New c =
    let below : c.args.cell < length c.self.inside.new_program.now.cells.items =
    subst (λ (d : Compared). c.args.cell < length (program_of sides.New d).cells.items) (sym c.self.view_is) (rw c.in-New.is at c.requires) in
    omega (arith, IsInRange-length _ _ c.self.invariant.1.1, length-ranges c.self.inside.new_program.now.cells.items)
