use Rattle.std.proofs.Common.{◌≡◌, refl, subst, ap, ◌∙◌}
use Rattle.replay_command.specs.Lines.{ending_line}
use Rattle.replay_command.specs.Played.{outcome_report}
use Rattle.replay_command.specs.Reports.{ending_status}
use Rattle.command_answers.specs.Answers.{HasPut}
use Rattle.command_answers.proofs.AnswerLemmas.{answered, put_behind, memory_behind}
use Rattle.replay_command.proofs.AnswerLemmas.{whole-ending_status}
use Rattle.replay_command.proofs.answer.put_ending.Goals as goal

pub returns-in-Ok-clause-answer : goal.returns-in-Ok-clause-answer
returns-in-Ok-clause-answer g c = λ told o e at.
    let old = (g.K.Sink.state c.args.out.now).taken in
    let new = (g.K.Sink.state c.put_last.new.out).taken in
    let line = subst (λ l. HasPut l c.status_of.result c.put_last.result old new) (c.as_str.ensures.value ∙ c.in-Ok.ensures ∙ ap ending_line at) c.put_last.ensures.put in
    let put = subst (λ s. HasPut (ending_line o.ending) s c.put_last.result old new) (c.status_of.ensures ∙ ap ending_status at) line in
    answered (λ r. r ≡ outcome_report o) ⊥ (outcome_report o) c.put_last.result told new refl (whole-ending_status o.ending)
    (put_behind o.lines (ending_line o.ending) (ending_status o.ending) c.put_last.result told old new e put)

pub returns-in-Err-clause-answer : goal.returns-in-Err-clause-answer
returns-in-Err-clause-answer g c = λ told o e at.
    memory_behind (λ r. r ≡ outcome_report o) ⊥ (outcome_report o) o.lines (ending_line o.ending) c.put_last-in-Err.result told (g.K.Sink.state c.args.out.now).taken (g.K.Sink.state c.put_last-in-Err.new.out).taken
    refl refl e c.put_last-in-Err.ensures.put
