use Rattle.std.proofs.Common.{◌≡◌, refl, sym, ap, subst}
use Rattle.finding_explain.specs.declared.answers.Explained.TheVariants.{Valid}
use Rattle.command_answers.specs.Reports.{Report}
use Rattle.command_answers.specs.Answers.{Answers}
use Rattle.finding_commands.specs.Lines.{explained_report}
use Rattle.finding_commands.proofs.show.put_explained.Goals as goal

pub returns-in-Valid-clause-answer : goal.returns-in-Valid-clause-answer
returns-in-Valid-clause-answer g c =
    subst (λ (x : Report). Answers (λ r. r ≡ x) ⊥ c.put_report.result (g.K.Sink.state c.args.out.now).taken (g.K.Sink.state c.put_report.new.out).taken) (ap explained_report (sym c.in-Valid.is))
    (c.put_report.ensures.answer (explained_report (Valid c.in-Valid.text)) refl c.line_of.ensures)
