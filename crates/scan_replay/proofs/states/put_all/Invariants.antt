use Rattle.std.proofs.Common.{◌≡◌, drop}
use Rattle.scan_model.specs.InRange.{put_at}
use Rattle.scan_replay.proofs.states.put_all.Given as goal

abbrev pub invariant-loop-i : goal.invariant-loop-i
invariant-loop-i l = put_at (drop l.i l.places) (drop l.i l.row) l.state ≡ put_at l.places l.row l.initial.state
