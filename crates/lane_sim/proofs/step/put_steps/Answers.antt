use Rattle.std.proofs.Common.{rules, ◌∙◌, length, get_or, arith}
use Rattle.lane_sim.specs.declared.step.Step.{Step}
use Rattle.lane_sim.specs.Steps.{IsStepWithin}
use Rattle.lane_sim.proofs.StepLaws.{stepped-drop}
use Rattle.lane_sim.proofs.step.put_steps.Goals as goal

pub loop-step-preserved : goal.loop-step-preserved
loop-step-preserved c =
    let any : Step = record { condition = 0; yes = 0; no = 0; code = 0 } in
    let within : IsStepWithin (length c.args.words.now) (get_or c.args.steps.now c.loop-step.step-index any) = c.requires c.loop-step.step-index any (omega arith) in
    record {
      whole = search rules;
      same = λ j h.
          stepped-drop j c.loop-step.words c.loop-step.step-index c.target.result c.step_word.result c.args.steps.now any (omega arith) c.target.ensures
          (omega (arith, within.target, c.target.ensures, c.loop-step.invariant.whole)) (c.step_word.ensures j h)
          ∙ c.loop-step.invariant.same j h;
    }
