use Rattle.std.proofs.Common.{◌≡◌, refl}
use Rattle.program_tree.specs.View.{program_view}
use Rattle.scan_model.specs.Pairs.{relation_view}
use Rattle.replay_command.specs.Lines.{ending_line}
use Rattle.replay_command.specs.Outcomes.{outcome_of}
use Rattle.replay_command.specs.Played.{outcome_report}
use Rattle.command_answers.proofs.AnswerLemmas.{memory_behind_part}
use Rattle.replay_command.proofs.AnswerLemmas.{part_answered}
use Rattle.replay_command.proofs.answer.put_replay.Goals as goal

pub returns-in-Ok-clause-answer : goal.returns-in-Ok-clause-answer
returns-in-Ok-clause-answer g c =
    let all = outcome_of (program_view c.args.replay.now.old) (program_view c.args.replay.now.new) (relation_view c.args.replay.now.relation) c.args.replay.now.rows in
    c.put_ending.ensures.answer (g.K.Sink.state c.args.out.now).taken all c.in-Ok.ensures.whole.0 c.in-Ok.ensures.whole.1

pub returns-in-Err-Sink-Fault-clause-answer : goal.returns-in-Err-Sink-Fault-clause-answer
returns-in-Err-Sink-Fault-clause-answer g c =
    let all = outcome_of (program_view c.args.replay.now.old) (program_view c.args.replay.now.new) (relation_view c.args.replay.now.relation) c.args.replay.now.rows in
    part_answered all _ _ c.in-Err-Sink-Fault.ensures.part

pub returns-in-Err-Sink-Memory-clause-answer : goal.returns-in-Err-Sink-Memory-clause-answer
returns-in-Err-Sink-Memory-clause-answer g c =
    let all = outcome_of (program_view c.args.replay.now.old) (program_view c.args.replay.now.new) (relation_view c.args.replay.now.relation) c.args.replay.now.rows in
    part_answered all _ _ c.in-Err-Sink-Memory.ensures.part

pub returns-in-Err-Memory-clause-answer : goal.returns-in-Err-Memory-clause-answer
returns-in-Err-Memory-clause-answer g c =
    let all = outcome_of (program_view c.args.replay.now.old) (program_view c.args.replay.now.new) (relation_view c.args.replay.now.relation) c.args.replay.now.rows in
    memory_behind_part (λ r. r ≡ outcome_report all) ⊥ (outcome_report all) all.lines (ending_line all.ending) c.put_last.result _ _ _ refl refl c.in-Err-Memory.ensures.part c.put_last.ensures.put
