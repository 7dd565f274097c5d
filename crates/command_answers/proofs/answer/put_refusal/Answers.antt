use Rattle.std.proofs.Common.{refl}
use Rattle.command_answers.specs.Reports.{refusal_report}
use Rattle.command_answers.proofs.answer.put_refusal.Goals as goal

pub returns-clause-answer : goal.returns-clause-answer
returns-clause-answer g c = c.put_report.ensures.answer (refusal_report c.args.source c.args.refusal) refl c.refusal_line.ensures
