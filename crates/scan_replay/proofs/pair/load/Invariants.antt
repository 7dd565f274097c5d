use Rattle.std.proofs.Common.{◌≡◌, drop}
use Rattle.scan_model.specs.Pairs.{loaded}
use Rattle.scan_replay.specs.States.{pair_of}
use Rattle.scan_replay.proofs.pair.load.Given as goal

abbrev pub invariant-loop-i : goal.invariant-loop-i
invariant-loop-i l = loaded (drop l.i l.lines) (drop l.i l.row) (pair_of l.states) ≡ loaded l.lines l.row (pair_of l.initial.states)
