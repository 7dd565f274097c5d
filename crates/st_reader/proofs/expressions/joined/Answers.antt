use Rattle.std.proofs.Common.{◌<◌, length, arith, rules}
use Rattle.std.proofs.lemmas.Grind.{common_steps}
use Rattle.grammar.proofs.Links.{tree_joined}
use Rattle.st_reader.proofs.expressions.joined.Goals as goal

pub returns : goal.returns
returns c =
    let some : 0 < length c.args.links.items = first_of (search rules, omega arith, grind (arith, common_steps)) in
    tree_joined c.in_ok-new.field-0 c.args.first c.args.links c.in_ok-new.ensures.ok some
