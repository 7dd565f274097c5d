use Rattle.std.proofs.Common.{◌≡◌, false, length, subst, rules, tests, IfOk}
use Rattle.std.specs.Prelude.{◌==◌}
use Rattle.program_tree.specs.Tree.{Expression}
use Rattle.program_tree.specs.View.{expr_view}
use Rattle.flat_charts.proofs.JoinLemmas.{joined_to-some}
use Rattle.flat_charts.proofs.joins.joined_to.Goals as goal

pub returns : goal.returns
returns c =
    let some : (length c.args.operands.items == 0) ≡ false = search (rules, tests) in
    subst (λ (e : Expression). IfOk c.chain.result (λ t. expr_view t ≡ e)) (joined_to-some (expr_view c.args.first) c.args.operands.items some) c.chain.ensures
