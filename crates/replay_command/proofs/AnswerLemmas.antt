-- How a replay ends.
use Rattle.std.proofs.Common.{◌≡◌, ℕ, List, Option, refl}
use Rattle.scan_model.specs.declared.relation.Ending.{Ending}
use Rattle.scan_model.specs.declared.relation.Ending.TheVariants.{Related, Unrelated, NotAllowed}
use Rattle.command_answers.specs.Puts.{PutsPart}
use Rattle.command_answers.specs.Answers.{PutsFront, a_report, all_put, extent_of}
use Rattle.command_answers.proofs.AnswerLemmas.{part_longer}
use Rattle.replay_command.specs.Lines.{ending_line}
use Rattle.replay_command.specs.Outcomes.{Outcome}
use Rattle.replay_command.specs.Played.{outcome_report}
use Rattle.replay_command.specs.Reports.{ending_status}

pub whole-ending_status : (e : Ending) → extent_of (ending_status e) ≡ all_put
whole-ending_status (Related n) = refl
whole-ending_status (Unrelated n) = refl
whole-ending_status (NotAllowed n) = refl

-- the sink gave up in the lines of a replay
pub part_answered : (o : Outcome) (told new : Option (List ℕ)) → PutsPart told new o.lines → PutsFront (λ r. r ≡ outcome_report o) ⊥ told new
part_answered o told new p = ((outcome_report o).text, a_report (outcome_report o) refl refl, part_longer told new o.lines (ending_line o.ending) p)
