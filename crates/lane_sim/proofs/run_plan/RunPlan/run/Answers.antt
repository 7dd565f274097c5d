use Rattle.std.proofs.Common.{◌∙◌, ℕ, Bool, ap, subst, List}
use Rattle.clause_core.specs.Satisfaction.{literal_true}
use Rattle.lane_sim.specs.declared.step.Step.{Step}
use Rattle.lane_sim.specs.Lanes.{assignment_of}
use Rattle.lane_sim.specs.Steps.{stepped}
use Rattle.lane_sim.specs.PlannedRuns.{PlannedRun, AreStepsOf}
use Rattle.lane_sim.proofs.PlanLaws.{starts_as, reads_as}
use Rattle.lane_sim.proofs.run_plan.RunPlan.run.Goals as goal

pub returns : goal.returns
returns c j h v run l q e =
    let p : PlannedRun = c.args.self.now in
    let steps : List Step = c.self.inside.steps.items in
    let before : ℕ → Bool = assignment_of j c.put_free.new.words in
    let right : AreStepsOf p steps = subst (λ (z : PlannedRun). AreStepsOf z steps) c.self.view_is c.self.invariant in
    let starts = starts_as p.net c.args.free.now c.put_free.new.words j v c.requires.free run (c.put_free.ensures.one j h) (λ i lt. c.put_free.ensures.bits j i lt) in
    ap (λ (u : ℕ → Bool). literal_true u q) (c.put_steps.ensures j h ∙ ap (λ (ss : List Step). stepped ss before) c.as_slice-steps.ensures.value)
    ∙ reads_as p steps before v right run.model starts l q e
