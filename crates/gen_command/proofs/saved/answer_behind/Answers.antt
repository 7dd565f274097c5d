use Rattle.std.proofs.Common.{refl}
use Rattle.outside.specs.States.{change}
use Rattle.verify_command.specs.comparison_files.Held.{comparison_in}
use Rattle.verify_command.specs.Reports.{ReportsVerdict}
use Rattle.gen_command.specs.Lines.{made_line}
use Rattle.gen_command.specs.Reports.{ReportsBehind, verified, no_memory}
use Rattle.gen_command.proofs.Behind.{answers_behind, line_given_up}
use Rattle.gen_command.proofs.saved.answer_behind.Goals as goal

pub returns-in-Ok-clause-answer : goal.returns-in-Ok-clause-answer
returns-in-Ok-clause-answer g c =
    let compared = comparison_in c.args.compared.now in
    let formula = g.Q.Queries.formula c.args.queries.now in
    let k = change (g.S.Shelf.state c.args.shelf.now) (g.S.Shelf.state c.answer_finding.new.shelf) in
    answers_behind (made_line c.args.count compared) (g.K.Sink.state c.args.out.now).taken (g.K.Sink.state c.put_text.new.out).taken (g.K.Sink.state c.answer_finding.new.out).taken
    (ReportsVerdict compared formula k c.args.finding.now) (ReportsBehind c.args.count compared formula k c.args.finding.now) (λ r h. verified r h refl) (no_memory refl)
    c.answer_finding.result (rw c.requires.line at c.in-Ok.ensures.whole) c.answer_finding.ensures.answer

pub returns-in-Err-Fault-clause-answer : goal.returns-in-Err-Fault-clause-answer
returns-in-Err-Fault-clause-answer g c =
    let compared = comparison_in c.args.compared.now in
    let formula = g.Q.Queries.formula c.args.queries.now in
    let k = change (g.S.Shelf.state c.args.shelf.now) (g.S.Shelf.state c.args.shelf.now) in
    line_given_up (made_line c.args.count compared) (ReportsBehind c.args.count compared formula k c.args.finding.now) (g.K.Sink.state c.args.out.now).taken (g.K.Sink.state c.put_text.new.out).taken (no_memory refl)
    (rw c.requires.line at c.in-Err-Fault.ensures.part)

pub returns-in-Err-Memory-clause-answer : goal.returns-in-Err-Memory-clause-answer
returns-in-Err-Memory-clause-answer g c =
    let compared = comparison_in c.args.compared.now in
    let formula = g.Q.Queries.formula c.args.queries.now in
    let k = change (g.S.Shelf.state c.args.shelf.now) (g.S.Shelf.state c.args.shelf.now) in
    line_given_up (made_line c.args.count compared) (ReportsBehind c.args.count compared formula k c.args.finding.now) (g.K.Sink.state c.args.out.now).taken (g.K.Sink.state c.put_text.new.out).taken (no_memory refl)
    (rw c.requires.line at c.in-Err-Memory.ensures.part)
