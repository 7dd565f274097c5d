use Rattle.std.proofs.Common.{Err, inl, refl, ap}
use Rattle.outside.specs.States.{change}
use Rattle.command_answers.proofs.AnswerLemmas.{answers-wider}
use Rattle.verify_command.specs.comparison_files.Held.{comparison_in}
use Rattle.generated_texts.specs.Names.{finding_name}
use Rattle.verify_command.specs.Reports.{untouched}
use Rattle.verify_command.proofs.Saved.{write_fault_answered}
use Rattle.gen_command.specs.Reports.{ReportsAccepted, ReportsBehind, not_saved, saved}
use Rattle.gen_command.proofs.Since.{fault_since, behind_since, finding_stays, part_since, hold_still, leave_still, keep_others, others_kept}
use Rattle.gen_command.proofs.saved.answer_accepted.Goals as goal

pub returns-in-Ok-clause-others : goal.returns-in-Ok-clause-others
returns-in-Ok-clause-others g c =
    keep_others c.args.count (g.S.Shelf.state c.args.shelf.now) (g.S.Shelf.state c.save_texts.new.shelf) (g.S.Shelf.state c.answer_saved.new.shelf)
    c.in-Ok.ensures.others (rw (c.as_str-finding.ensures.value, c.requires.made.names.finding) at c.answer_saved.ensures.others)

pub returns-in-Ok-clause-texts : goal.returns-in-Ok-clause-texts
returns-in-Ok-clause-texts g c =
    leave_still c.args.count (g.S.Shelf.state c.args.shelf.now) (g.S.Shelf.state c.save_texts.new.shelf) (g.S.Shelf.state c.answer_saved.new.shelf)
    (rw (c.as_str-finding.ensures.value, c.requires.made.names.finding) at c.answer_saved.ensures.others) c.in-Ok.ensures.leave

pub returns-in-Ok-clause-left : goal.returns-in-Ok-clause-left
returns-in-Ok-clause-left g c =
    part_since c.args.count (g.S.Shelf.state c.args.shelf.now) (g.S.Shelf.state c.save_texts.new.shelf) (g.S.Shelf.state c.answer_saved.new.shelf)
    (comparison_in c.args.compared.now) (g.Q.Queries.formula c.args.queries.now)
    c.in-Ok.ensures.others (rw (c.as_str-finding.ensures.value, c.requires.made.names.finding) at c.answer_saved.ensures.left)

pub returns-in-Ok-clause-answer : goal.returns-in-Ok-clause-answer
returns-in-Ok-clause-answer g c =
    let compared = comparison_in c.args.compared.now in
    let formula = g.Q.Queries.formula c.args.queries.now in
    let first = g.S.Shelf.state c.args.shelf.now in
    let before = g.S.Shelf.state c.save_texts.new.shelf in
    let after = g.S.Shelf.state c.answer_saved.new.shelf in
    let stay = rw (c.as_str-finding.ensures.value, c.requires.made.names.finding) at c.answer_saved.ensures.others in
    answers-wider (ReportsBehind c.args.count compared formula (change before after) (finding_name c.args.count)) (ReportsAccepted c.args.count compared formula (change first after))
    ⊥ ⊥ c.answer_saved.result _ _
    (λ r h. saved (hold_still c.args.count first before after stay c.in-Ok.ensures.hold) (behind_since c.args.count first before after compared formula r c.in-Ok.ensures.writes h)) (λ x. x)
    (rw (c.as_str-finding.ensures.value, c.requires.made.names.finding) at c.answer_saved.ensures.answer)

pub returns-in-Ok-clause-write_fault : goal.returns-in-Ok-clause-write_fault
returns-in-Ok-clause-write_fault g c = λ e.
    fault_since c.args.count (g.S.Shelf.state c.args.shelf.now) (g.S.Shelf.state c.save_texts.new.shelf) (g.S.Shelf.state c.answer_saved.new.shelf) _ _
    c.in-Ok.ensures.writes ((rw (c.as_str-finding.ensures.value, c.requires.made.names.finding) at c.answer_saved.ensures.write_fault) e)

pub returns-in-Err-Fault-clause-answer : goal.returns-in-Err-Fault-clause-answer
returns-in-Err-Fault-clause-answer g c =
    let compared = comparison_in c.args.compared.now in
    let formula = g.Q.Queries.formula c.args.queries.now in
    let k = change (g.S.Shelf.state c.args.shelf.now) (g.S.Shelf.state c.save_texts.new.shelf) in
    write_fault_answered (ReportsAccepted c.args.count compared formula k) ⊥ c.put_last.result _ _
    (not_saved (c.in-Err-Fault.ensures.fault (ap Err c.in-Err-Fault.field-0-is)) refl) c.put_last.ensures.put

pub returns-in-Err-Fault-clause-left : goal.returns-in-Err-Fault-clause-left
returns-in-Err-Fault-clause-left g c =
    let first = g.S.Shelf.state c.args.shelf.now in
    let before = g.S.Shelf.state c.save_texts.new.shelf in
    untouched (finding_stays c.args.count first before before c.in-Err-Fault.ensures.others)

pub returns-in-Err-Memory-clause-left : goal.returns-in-Err-Memory-clause-left
returns-in-Err-Memory-clause-left g c =
    let first = g.S.Shelf.state c.args.shelf.now in
    let before = g.S.Shelf.state c.save_texts.new.shelf in
    untouched (finding_stays c.args.count first before before c.in-Err-Memory.ensures.others)
