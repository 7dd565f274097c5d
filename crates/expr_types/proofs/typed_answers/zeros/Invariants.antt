use Rattle.std.proofs.Common.{◌≡◌, replicate}
use Rattle.std.specs.Prelude.{pos}
use Rattle.program_tree.specs.Tree.{number}
use Rattle.program_tree.specs.View.{exprs_view}
use Rattle.expr_types.proofs.typed_answers.zeros.Given as goal

abbrev pub invariant-loop : goal.invariant-loop
invariant-loop l = exprs_view l.list.items ≡ replicate l.counter (number (pos 0))
