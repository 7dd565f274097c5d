use Rattle.scan_replay.proofs.DuoLemmas.{as_long_as_cells}
use Rattle.scan_replay.proofs.duo.Duo.reset.Goals as goal

pub reset_both-requires-clause-old : goal.reset_both-requires-clause-old
reset_both-requires-clause-old c = as_long_as_cells _ _ c.self.invariant.1.0

pub reset_both-requires-clause-new : goal.reset_both-requires-clause-new
reset_both-requires-clause-new c = as_long_as_cells _ _ c.self.invariant.1.1
