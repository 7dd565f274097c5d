use Rattle.interpreter.proofs.Endings.{state-left}
use Rattle.scan_replay.proofs.Scanned.{scan-left}
use Rattle.scan_replay.proofs.run.scan.Goals as goal

pub returns-clause-state : goal.returns-clause-state
returns-clause-state c =
    scan-left c.args.program.now _ _ _ _ _ _ _ (state-left _ _ _ c.run_all.ensures.effect) c.deref.ensures.value c.len.ensures c.deref.ensures.len c.deref-2.ensures.value c.requires.ranges c.put.ensures
