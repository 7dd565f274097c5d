use Rattle.std.proofs.Common.{◌≡◌, drop}
use Rattle.scan_model.specs.Pairs.{all_hold, clauses_among}
use Rattle.scan_replay.specs.States.{pair_of}
use Rattle.scan_replay.proofs.pair.all_of_them_hold.Given as goal

abbrev pub invariant-loop-candidate : goal.invariant-loop-candidate
invariant-loop-candidate l =
    all_hold (clauses_among l.candidates) (pair_of l.states) ≡ all_hold (clauses_among (drop l.candidate-index l.candidates)) (pair_of l.states)
