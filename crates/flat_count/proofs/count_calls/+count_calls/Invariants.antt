use Rattle.std.proofs.Common.{◌≡◌, ◌+◌, ◌≤◌, drop}
use Rattle.program_tree.specs.View.{operands_view, arguments_view, all_called_view}
use Rattle.meaning.specs.Frames.{frames_of}
use Rattle.flat_count.specs.Counts.{count_in_operands, count_in_all, count_in_inputs, counting_here, capped}
use Rattle.flat_count.proofs.count_calls.+count_calls.Given as goal

-- what is counted with what is left
abbrev pub invariant-count_operands-loop-operand : goal.invariant-count_operands-loop-operand
invariant-count_operands-loop-operand l = record {
  all : capped (l.total + count_in_operands (counting_here l.counts) (operands_view (drop l.operand-index l.operands))) ≡ capped (count_in_operands (counting_here l.counts) (operands_view l.operands));
  fits : l.total ≤ 200001;
}

abbrev pub invariant-count_exprs-loop-expr : goal.invariant-count_exprs-loop-expr
invariant-count_exprs-loop-expr l = record {
  all : capped (l.total + count_in_all (counting_here l.counts) (arguments_view (drop l.expr-index l.list))) ≡ capped (count_in_all (counting_here l.counts) (arguments_view l.list));
  fits : l.total ≤ 200001;
}

abbrev pub invariant-count_inputs-loop-input : goal.invariant-count_inputs-loop-input
invariant-count_inputs-loop-input l = record {
  place : l.place ≡ 2 + l.input-index;
  all : capped (l.total + count_in_inputs (counting_here l.counts) (frames_of (all_called_view l.counts.called.now) l.function) l.place (arguments_view (drop l.input-index l.inputs)))
      ≡ capped (count_in_inputs (counting_here l.counts) (frames_of (all_called_view l.counts.called.now) l.function) 2 (arguments_view l.inputs));
  fits : l.total ≤ 200001;
}
