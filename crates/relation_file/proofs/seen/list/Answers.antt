use Rattle.std.proofs.Common.{◌≡◌, arith}
use Rattle.std.specs.String.{string_bytes}
use Rattle.std.proofs.lemmas.Grind.{common_steps}
use Rattle.relation_file.proofs.SeenLemmas.{lists_push}
use Rattle.relation_file.proofs.seen.list.Goals as goal

pub returns : goal.returns
returns c = λ before lists.
    let key : string_bytes c.in_ok-clone.field-0 ≡ string_bytes c.args.name.now.text = grind (arith, common_steps) in
    lists_push c.args.names.now c.insert.new.self c.in_ok-clone.field-0 _ before c.in_ok-insert.ensures.updates key lists
