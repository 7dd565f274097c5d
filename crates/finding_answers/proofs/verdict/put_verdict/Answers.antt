use Rattle.std.proofs.Common.{◌∙◌, refl, sym, ap}
use Rattle.command_answers.specs.declared.status.Status.TheVariants.{Usage, ReadFault}
use Rattle.command_answers.specs.Answers.{extent_of}
use Rattle.finding_answers.specs.Verdicts.{verdict_line, reach_line, verdict_report}
use Rattle.finding_answers.proofs.VerdictLemmas.{whole-verdict_status, no_other}
use Rattle.finding_answers.proofs.verdict.put_verdict.Goals as goal

pub put_lines-requires-clause-extent : goal.put_lines-requires-clause-extent
put_lines-requires-clause-extent g c = ap extent_of c.verdict_status.ensures ∙ whole-verdict_status c.args.concluded.verdict

pub returns-clause-answer : goal.returns-clause-answer
returns-clause-answer g c =
    let a = c.args.concluded in
    c.put_lines.ensures.answer (verdict_report c.args.depth a) (verdict_line a.verdict) (reach_line c.args.depth a.reach) (sym c.verdict_status.ensures) refl c.verdict_line-line.ensures c.reach_line-reach.ensures

pub returns-clause-usage : goal.returns-clause-usage
returns-clause-usage g c = no_other c.args.concluded.verdict c.verdict_status.result c.put_lines.result Usage c.verdict_status.ensures c.put_lines.ensures.ends (λ x. cc) (λ x. cc) (λ x. x)

pub returns-clause-read_fault : goal.returns-clause-read_fault
returns-clause-read_fault g c = no_other c.args.concluded.verdict c.verdict_status.result c.put_lines.result ReadFault c.verdict_status.ensures c.put_lines.ensures.ends (λ x. cc) (λ x. cc) (λ x. x)
