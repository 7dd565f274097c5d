use Rattle.std.proofs.Common.{false, ◌≡◌, ◌≤◌, drop}
use Rattle.program_tree.specs.View.{program_view}
use Rattle.scan_model.specs.Pairs.{relation_view}
use Rattle.replay_command.specs.Outcomes.{outcome_from, outcome_of}
use Rattle.replay_command.proofs.PlayLemmas.{HasPlayed, AreOf}
use Rattle.replay_command.proofs.play.play.Given as goal

abbrev pub invariant-loop-done : goal.invariant-loop-done
invariant-loop-done g l = record {
  same : AreOf l.old l.new l.relation l.duo;
  played : HasPlayed (g.K.Sink.state l.initial.out).taken (g.K.Sink.state l.out).taken
      (outcome_of (program_view l.old) (program_view l.new) (relation_view l.relation) l.rows)
      (outcome_from (program_view l.old) (program_view l.new) (relation_view l.relation) l.done l.duo.pair (drop l.done l.rows));
  later : (g.K.Sink.state l.initial.out).faults ≤ (g.K.Sink.state l.out).faults;
  unfailed : (g.K.Sink.state l.out).put_failed ≡ false;
}
