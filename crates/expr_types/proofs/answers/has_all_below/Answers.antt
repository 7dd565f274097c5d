use Rattle.std.proofs.Common.{◌≡◌, ◌∙◌, false, replicate, arith}
use Rattle.std.proofs.lemmas.Grind.{common_steps}
use Rattle.typing_laws.proofs.Marks.{marked, all_marked}
use Rattle.expr_types.proofs.answers.has_all_below.Goals as goal

pub returns : goal.returns
returns c =
    let held : c.deref.result.now ≡ marked (replicate c.args.count false) c.args.numbers.now = grind (arith, common_steps) in
    c.are_all.ensures ∙ all_marked c.args.count c.args.numbers.now c.deref.result.now held
