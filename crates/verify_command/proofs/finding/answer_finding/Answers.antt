use Rattle.std.proofs.Common.{◌≡◌, ap, subst}
use Rattle.outside.specs.States.{change}
use Rattle.command_answers.proofs.AnswerLemmas.{answers-wider}
use Rattle.comparison_files.specs.Held.{comparison_in}
use Rattle.verify_command.specs.Reports.{ReportsVerdict, ReportsSaved}
use Rattle.verify_command.proofs.Saved.{reported}
use Rattle.verify_command.proofs.finding.answer_finding.Goals as goal

pub returns-clause-answer : goal.returns-clause-answer
returns-clause-answer g c =
    let compared = comparison_in c.args.compared.now in
    let formula = g.Q.Queries.formula c.args.queries.now in
    let k = change (g.S.Shelf.state c.args.shelf.now) (g.S.Shelf.state c.save-saved.new.shelf) in
    let held = c.relation.result.now.depth in
    let depth : held ≡ compared.relation.depth = ap (λ x. x.depth) c.relation.ensures in
    answers-wider (ReportsSaved held c.save-saved.result) (ReportsVerdict compared formula k c.args.finding.now) ⊥ ⊥ c.put_saved.result _ _
    (λ r h. reported compared formula k c.args.finding.now c.save-saved.result c.save-saved.ensures.saved c.save-saved.ensures.shown c.save-saved.ensures.past c.save-saved.ensures.cause.failed r
    (subst (λ d. ReportsSaved d c.save-saved.result r) depth h)) (λ x. x)
    c.put_saved.ensures.answer
