use Rattle.std.proofs.Common.{ℕ, length, ap, sym}
use Rattle.program_tree.specs.View.{arguments_view, all_called_view}
use Rattle.program_tree.specs.OperandTypes.{arity}
use Rattle.meaning.specs.Frames.{frames_of}
use Rattle.flat_form.specs.Frames.{others_behind}
use Rattle.flat_count.specs.Counts.{count_in_inputs, counting_here, counted}
use Rattle.flat_form.proofs.FrameLemmas.{arity-length}
use Rattle.flat_count.proofs.CountLemmas.{answer-counted}
use Rattle.flat_count.proofs.count_calls.+count_calls.Goals as goal

pub count_answer-returns : goal.count_answer-returns
count_answer-returns t c =
    let counts = c.args.counts.now in
    let inputs = c.args.inputs.now in
    let frame = frames_of (all_called_view counts.called.now) c.args.function in
    answer-counted c.sum-2.result c.count_inputs-before.result c.sum.result c.count_others-others.result c.sum-body.result c.count_at.result
    (count_in_inputs (counting_here counts) frame 2 (arguments_view inputs)) (others_behind frame (length inputs)) (others_behind frame (arity (arguments_view inputs))) (counted counts.bodies.now c.args.function)
    c.sum-2.ensures.sum c.count_inputs-before.ensures c.sum.ensures.sum c.count_others-others.ensures.count c.sum-body.ensures.sum c.count_at.ensures.count
    (ap (λ (n : ℕ). others_behind frame n) (sym (arity-length inputs)))
