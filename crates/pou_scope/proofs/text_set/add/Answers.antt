use Rattle.std.proofs.Common.{◌≡◌, arith}
use Rattle.std.proofs.lemmas.Grind.{common_steps}
use Rattle.std.specs.String.{string_bytes}
use Rattle.source_tree.specs.SyntaxView.{name_view}
use Rattle.naming.proofs.TextSetLemmas.{inserted}
use Rattle.pou_scope.proofs.text_set.add.Goals as goal

pub returns : goal.returns
returns c =
    let own = (name_view c.args.name.now).text in
    let key : string_bytes c.in_ok-clone.field-0 ≡ own = grind (arith, common_steps) in
    inserted c.args.set.now c.insert.new.self c.in_ok-clone.field-0 _ own c.in_ok-insert.ensures.updates key
