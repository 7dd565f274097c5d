use Rattle.std.proofs.Common.{refl}
use Rattle.command_answers.specs.declared.status.Status.TheVariants.{Invalid, Usage, ReadFault}
use Rattle.finding_answers.specs.Lines.{invalid_report}
use Rattle.finding_answers.proofs.LineLemmas.{no_other}
use Rattle.finding_answers.proofs.put.put_invalid.Goals as goal

pub returns-clause-answer : goal.returns-clause-answer
returns-clause-answer g c = c.put_report.ensures.answer (invalid_report c.args.number c.args.reason) refl c.invalid_line.ensures

pub returns-clause-usage : goal.returns-clause-usage
returns-clause-usage g c = no_other Invalid c.put_report.result Usage c.put_report.ensures.ends (λ x. cc) (λ x. cc) (λ x. cc)

pub returns-clause-read_fault : goal.returns-clause-read_fault
returns-clause-read_fault g c = no_other Invalid c.put_report.result ReadFault c.put_report.ensures.ends (λ x. cc) (λ x. cc) (λ x. cc)
