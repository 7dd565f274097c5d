use Rattle.std.proofs.Common.{arith}
use Rattle.scan_replay.proofs.DuoLemmas.{run_in_range}
use Rattle.scan_replay.proofs.RowLemmas.{room_kept}
use Rattle.scan_replay.proofs.machine.Machine.run.Goals as goal

pub invariant_of-self : goal.invariant_of-self
invariant_of-self c =
    (c.self.invariant.0, c.self.invariant.1, run_in_range c.self.inside.program.now _ _ _ _ c.self.invariant.0 c.self.invariant.2 (omega arith) c.scan.ensures.state c.deref_mut.ensures.value, c.self.invariant.3, room_kept _ _ _ c.scan.new.stack (omega arith) (omega (arith, c.self.invariant.4)))

pub returns-clause-in_range : goal.returns-clause-in_range
returns-clause-in_range c =
    run_in_range c.self.inside.program.now _ _ _ _ c.self.invariant.0 c.self.invariant.2 (omega arith) c.scan.ensures.state c.deref_mut.ensures.value
