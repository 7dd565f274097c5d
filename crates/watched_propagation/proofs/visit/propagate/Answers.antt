use Rattle.std.proofs.Common.{◌∙◌}
use Rattle.watched_propagation.proofs.visit.propagate.Goals as goal

pub returns-in_err-conflict-clause-lasting : goal.returns-in_err-conflict-clause-lasting
returns-in_err-conflict-clause-lasting c = λ x h. c.propagate_next.ensures.lasting x (c.loop.invariant.lasting x h)

pub returns-then-is_some-clause-lasting : goal.returns-then-is_some-clause-lasting
returns-then-is_some-clause-lasting c = λ x h. c.propagate_next.ensures.lasting x (c.loop.invariant.lasting x h)

pub loop-preserved : goal.loop-preserved
loop-preserved c = record {
  watching = c.propagate_next.ensures.watching;
  lasting = λ x h. c.propagate_next.ensures.lasting x (c.loop.invariant.lasting x h);
  size = c.propagate_next.ensures.size ∙ c.loop.invariant.size;
  kept = λ k e. c.loop.invariant.kept k (c.propagate_next.ensures.kept k e);
}
