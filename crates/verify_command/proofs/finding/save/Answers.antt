use Rattle.outside.specs.States.{change}
use Rattle.comparison_files.specs.Held.{comparison_in}
use Rattle.verify_command.proofs.Saved.{after_create, are_shown, part_left}
use Rattle.verify_command.proofs.finding.save.Goals as goal

pub returns-in-Ok-create-clause-saved : goal.returns-in-Ok-create-clause-saved
returns-in-Ok-create-clause-saved g c = rw (c.in-Ok.ensures.old, c.in-Ok.ensures.new, c.in-Ok.ensures.relation, c.in-Ok-new.ensures) at c.save_finding.ensures.valid

pub returns-in-Ok-create-clause-shown : goal.returns-in-Ok-create-clause-shown
returns-in-Ok-create-clause-shown g c =
    are_shown (comparison_in c.args.compared.now) (g.Q.Queries.formula c.args.queries.now) c.save_finding.result
    (rw (c.in-Ok.ensures.old, c.in-Ok.ensures.new, c.in-Ok.ensures.relation) at c.save_finding.ensures.shown)
    (rw (c.in-Ok.ensures.old, c.in-Ok.ensures.new, c.in-Ok.ensures.relation) at c.save_finding.ensures.reached)
    c.save_finding.ensures.told

pub returns-in-Ok-create-clause-past : goal.returns-in-Ok-create-clause-past
returns-in-Ok-create-clause-past g c = rw (c.in-Ok.ensures.old, c.in-Ok.ensures.new, c.in-Ok.ensures.relation, c.in-Ok-new.ensures) at c.save_finding.ensures.past

pub returns-in-Ok-create-clause-left : goal.returns-in-Ok-create-clause-left
returns-in-Ok-create-clause-left g c =
    let k = change (g.S.Shelf.state c.args.shelf.now) (g.S.Shelf.state c.save_finding.new.shelf) in
    part_left (comparison_in c.args.compared.now) (g.Q.Queries.formula c.args.queries.now) k c.args.finding.now c.save_finding.result
    (rw (c.in-Ok.ensures.old, c.in-Ok.ensures.new, c.in-Ok.ensures.relation, c.in-Ok-new.ensures) at c.save_finding.ensures.part)

pub returns-in-Err-Fault-clause-left : goal.returns-in-Err-Fault-clause-left
returns-in-Err-Fault-clause-left g c =
    let k = change (g.S.Shelf.state c.args.shelf.now) (g.S.Shelf.state c.create.new.self) in
    after_create (comparison_in c.args.compared.now) (g.Q.Queries.formula c.args.queries.now) k c.args.finding.now c.in-Err-Fault.ensures.emptied.part

pub returns-clause-left : goal.returns-clause-left
returns-clause-left g c =
    let k = change (g.S.Shelf.state c.args.shelf.now) (g.S.Shelf.state c.create.new.self) in
    after_create (comparison_in c.args.compared.now) (g.Q.Queries.formula c.args.queries.now) k c.args.finding.now c.in-Err-Memory.ensures.emptied.part
