use Rattle.std.proofs.Common.{◌≡◌, ◌∙◌, ◌+◌, rules, pos, to_z, of_z}
use Rattle.std.specs.Prelude.{slice_index_or}
use Rattle.std.specs.Int.{w128}
use Rattle.std.proofs.lemmas.Int.{ints}
use Rattle.program_tree.specs.declared.typed.StepCells.{StepCells}
use Rattle.meaning.proofs.Loops.{length-set, written-next}
use Rattle.interpreter.proofs.markings.read_now.Goals as goal

pub loop-i-preserved : goal.loop-i-preserved
loop-i-preserved c =
    let value = λ (p : StepCells). slice_index_or c.args.cells.now (c.args.base + p.active) (pos 0) in
    let v : to_z w128 (of_z w128 c.read.result) ≡ c.read.result = search (rules, ints) in
    record {
      front = written-next value c.args.steps.now c.loop-i.marking c.loop-i.i _ _ c.loop-i-test.true c.loop-i.invariant.long c.loop-i.invariant.front (v ∙ c.read.ensures);
      long = length-set c.loop-i.marking c.loop-i.i _ ∙ c.loop-i.invariant.long;
    }
