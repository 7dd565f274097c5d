use Rattle.std.proofs.Common.{◌≡◌, refl, sym, ap, subst}
use Rattle.judgement.specs.declared.answers.Judged.TheVariants as judgements
use Rattle.command_answers.specs.declared.status.Status.TheVariants.{Valid, Usage, ReadFault}
use Rattle.command_answers.specs.Reports.{Report}
use Rattle.command_answers.specs.Answers.{Answers}
use Rattle.finding_answers.specs.Verdicts.{valid_line, reach_line}
use Rattle.finding_answers.specs.Lines.{judged_report}
use Rattle.finding_answers.proofs.LineLemmas.{no_other}
use Rattle.finding_answers.proofs.put.put_judged.Goals as goal

pub returns-in-Valid-clause-answer : goal.returns-in-Valid-clause-answer
returns-in-Valid-clause-answer g c =
    let verdict = c.in-Valid.verdict in
    let reach = c.in-Valid.reach in
    subst (λ (x : Report). Answers (λ r. r ≡ x) ⊥ c.put_lines.result (g.K.Sink.state c.args.out.now).taken (g.K.Sink.state c.put_lines.new.out).taken) (ap (judged_report c.args.depth) (sym c.in-Valid.is))
    (c.put_lines.ensures.answer (judged_report c.args.depth (judgements.Valid verdict reach)) (valid_line verdict) (reach_line c.args.depth reach) refl refl c.valid_line-line.ensures c.reach_line-reach.ensures)

pub returns-in-Valid-clause-usage : goal.returns-in-Valid-clause-usage
returns-in-Valid-clause-usage g c = no_other Valid c.put_lines.result Usage c.put_lines.ensures.ends (λ x. cc) (λ x. cc) (λ x. cc)

pub returns-in-Valid-clause-read_fault : goal.returns-in-Valid-clause-read_fault
returns-in-Valid-clause-read_fault g c = no_other Valid c.put_lines.result ReadFault c.put_lines.ensures.ends (λ x. cc) (λ x. cc) (λ x. cc)
