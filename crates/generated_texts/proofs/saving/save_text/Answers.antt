use Rattle.generated_texts.proofs.SaveLemmas.{left_by_create, left_by_both}
use Rattle.generated_texts.proofs.saving.save_text.Goals as goal

pub returns-in_err-create-clause-leaves : goal.returns-in_err-create-clause-leaves
returns-in_err-create-clause-leaves g c =
    left_by_create ((g.S.Shelf.state c.args.shelf.now).file c.args.name.now) ((g.S.Shelf.state c.create.new.self).file c.args.name.now) c.args.text.now c.in_err-create.ensures.emptied.part

pub returns-clause-leaves : goal.returns-clause-leaves
returns-clause-leaves g c =
    left_by_both c.append.result ((g.S.Shelf.state c.args.shelf.now).file c.args.name.now) ((g.S.Shelf.state c.create.new.self).file c.args.name.now) ((g.S.Shelf.state c.append.new.self).file c.args.name.now) c.args.text.now
    c.in_ok-create.ensures.emptied.all c.append.ensures.added
