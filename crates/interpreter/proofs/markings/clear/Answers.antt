use Rattle.std.proofs.Common.{◌∙◌, rules, arith, pos}
use Rattle.meaning.proofs.Loops.{length-set, written-next}
use Rattle.interpreter.proofs.markings.clear.Goals as goal

pub loop-i-preserved : goal.loop-i-preserved
loop-i-preserved c = record {
  front = written-next (λ _. pos 0) c.args.marking.now c.loop-i.marking c.loop-i.i (pos 0) (pos 0) (omega arith) c.loop-i.invariant.long c.loop-i.invariant.front (search rules);
  long = length-set c.loop-i.marking c.loop-i.i (pos 0) ∙ c.loop-i.invariant.long;
}
