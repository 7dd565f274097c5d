use Rattle.std.proofs.Common.{◌≡◌, ◌++◌, drop}
use Rattle.program_tree.specs.View.{operands_view, arguments_view}
use Rattle.running_pous.specs.Uses.{uses_in_operands, uses_in_all}
use Rattle.running_pous.proofs.uses.+append_uses_in.Given as goal

abbrev pub invariant-append_in_operands-loop-operand : goal.invariant-append_in_operands-loop-operand
invariant-append_in_operands-loop-operand l =
    l.uses.items ++ uses_in_operands (operands_view (drop l.operand-index l.operands)) ≡ l.fn.uses.items ++ uses_in_operands (operands_view l.operands)

abbrev pub invariant-append_in_all-loop-expr : goal.invariant-append_in_all-loop-expr
invariant-append_in_all-loop-expr l =
    l.uses.items ++ uses_in_all (arguments_view (drop l.expr-index l.list)) ≡ l.fn.uses.items ++ uses_in_all (arguments_view l.list)
