use Rattle.std.proofs.Common.{◌≡◌, drop}
use Rattle.program_tree.specs.View.{exprs_view}
use Rattle.scan_model.specs.Pairs.{all_hold}
use Rattle.scan_replay.specs.States.{pair_of}
use Rattle.scan_replay.proofs.pair.all_hold.Given as goal

abbrev pub invariant-loop-clause : goal.invariant-loop-clause
invariant-loop-clause l =
    all_hold (exprs_view l.clauses) (pair_of l.states) ≡ all_hold (exprs_view (drop l.clause-index l.clauses)) (pair_of l.states)
